-- Lines of a script that are drawn, and their text. (This project's own.)
use Rattle.std.specs.Prelude.{ℕ, List, [], ◌∷◌, ◌++◌, codes}
use Rattle.std.specs.Fmt.{decimal}
use Rattle.gm_base.specs.declared.values.Kind.{Kind}
use Rattle.gm_base.specs.declared.values.Kind.TheVariants.{Private, Shared}
use Rattle.gm_gen.specs.declared.line.Line.{Line}
use Rattle.gm_gen.specs.declared.line.Line.TheVariants as line
use Rattle.gm_gen.specs.declared.line.Call.{Call}
use Rattle.gm_gen.specs.declared.line.Call.TheVariants.{Attrs, Punch, Populate}
use Rattle.gm_gen.specs.declared.words.Word.{Word}
use Rattle.gm_gen.specs.declared.words.Word.TheVariants.{Plain, Number, Vcpu, Caller}

-- a space before each of these words, and the newline
abbrev pub ending : List (List ℕ) → List ℕ
ending [] = codes "\n"
ending (word ∷ words) = codes " " ++ (word ++ ending words)

-- a line of these words
abbrev pub line_of : List ℕ → List (List ℕ) → List ℕ
line_of first words = first ++ ending words

-- a vCPU and a caller as a script names them
abbrev pub vcpu_text : ℕ → List ℕ
vcpu_text n = codes "v" ++ decimal n

abbrev pub caller_text : ℕ → List ℕ
caller_text n = codes "c" ++ decimal n

-- the text of a word
abbrev pub word_text : Word → List ℕ
word_text (Plain text) = text.now
word_text (Number n) = decimal n
word_text (Vcpu n) = vcpu_text n
word_text (Caller n) = caller_text n

abbrev pub kind_text : Kind → List ℕ
kind_text Private = codes "private"
kind_text Shared = codes "shared"

-- the text of a call's line
abbrev pub call_text : ℕ → Call → List ℕ
call_text caller (Attrs address size attributes) = line_of (caller_text caller) (codes "attrs" ∷ decimal address ∷ decimal size ∷ decimal attributes ∷ decimal 0 ∷ [])
call_text caller (Punch file offset length) = line_of (caller_text caller) (codes "punch" ∷ decimal file ∷ decimal offset ∷ decimal length ∷ [])
call_text caller (Populate gpa pages) = line_of (caller_text caller) (codes "populate" ∷ decimal gpa ∷ decimal pages ∷ decimal 0 ∷ [])

-- the text of a line
abbrev pub line_text : Line → List ℕ
line_text (line.Read vcpu kind gpa) = line_of (vcpu_text vcpu) (codes "read" ∷ kind_text kind ∷ decimal gpa ∷ [])
line_text (line.Write vcpu kind gpa value) = line_of (vcpu_text vcpu) (codes "write" ∷ kind_text kind ∷ decimal gpa ∷ decimal value ∷ [])
line_text (line.Call caller call) = call_text caller call
line_text (line.Turn vcpu) = line_of (codes "turn") (vcpu_text vcpu ∷ [])
line_text (line.CallerTurn caller) = line_of (codes "turn") (caller_text caller ∷ [])
line_text (line.Kick vcpu) = line_of (codes "kick") (vcpu_text vcpu ∷ [])
