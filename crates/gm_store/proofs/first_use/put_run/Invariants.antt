use Rattle.std.proofs.Common.{◌≡◌, vec_len, vec_capacity, length}
use Rattle.gm_store.proofs.Blocks.{RunSoFar}
use Rattle.gm_store.proofs.first_use.put_run.Given as goal

abbrev pub invariant-pages : goal.invariant-pages
invariant-pages l = record { so_far : RunSoFar l.files.items l.initial.files.items l.bank l.initial.bank l.file l.first l.folio l.j; len : vec_len l.files ≡ vec_len l.initial.files; capacity : vec_capacity l.files ≡ vec_capacity l.initial.files; frames : length l.bank ≡ length l.initial.bank }
