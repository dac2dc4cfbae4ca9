-- The rows of a region that look at files, and what the other rows leave to them.
use Rattle.std.specs.Prelude.{◌+◌, ◌*◌, not, ◌&&◌, nat_lt, if◌then◌else◌}
use Rattle.gm_base.specs.declared.calls.Region.{Region}
use Rattle.gm_base.specs.declared.numbers.TheConstants.{PAGE_BYTES}
use Rattle.gm_base.specs.declared.values.Errno.TheVariants.{BadF, Inval}
use Rattle.gm_flat.specs.Calls.{Plan, Refused, Short, file_pages, meets_bound, new_slot, page_of, wants_file}
use Rattle.gm_flat.specs.FlatState.{Flat, in_use}

-- the rows on the file of a slot that is to be made: a file in use that has the pages, none of which is bound
abbrev pub binding_rows : Region → Flat → Plan
binding_rows r f =
    if wants_file r && not (in_use r.fd f.files) then Refused BadF
    else if wants_file r && nat_lt (PAGE_BYTES * file_pages r.fd f.files) (r.offset + r.size) then Refused Inval
    else if wants_file r && meets_bound r.fd (page_of r.offset) (page_of r.size) f.slots then Refused Inval
    else Short (new_slot r (wants_file r)) 0
