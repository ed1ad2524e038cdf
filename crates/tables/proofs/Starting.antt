-- The first table, written.
use mathlib.Core.Path.{◌≡◌, ◌∙◌}
use mathlib.Core.List.{List, [], ◌++◌, append-nil}
use Prim.Native.Nat.{ℕ, ◌-◌, ◌≤◌}
use native.Mathlib.Omega.{arith}
use lib.ListN.{length, take, drop, length-append}
use borrow.Rule.Slice.PartMut.{put_mid}
use Rattle.model.specs.records.Record.{max_mark, record_of, encode, joined, encode_all}
use Rattle.model.specs.inner.Written.{clipped}
use Rattle.model.specs.tables.Tables.{InitPivotTable}
use Rattle.model.specs.calls.Refusals.{over}
use Rattle.model.specs.inner.Written.{into}
use Rattle.model.proofs.Lists.{written_on, into_over}
use Rattle.model.proofs.records.Record.{length_record}

-- one record, and in the rest the other
pub both_written : (d v w : List ℕ) → 132 ≤ length d → v ≡ into (record_of 0 (clipped [])) d
    → w ≡ into (record_of max_mark (clipped [])) (take (length v - 66) (drop 66 v)) → put_mid 66 (length v - 66) v w ≡ over (encode_all InitPivotTable) d
unfolding encode_all joined encode InitPivotTable clipped
both_written d v w h e g =
    let l = length_record 0 [] (omega arith) in
    let m = length_record max_mark [] (omega arith) in
    rw append-nil
    (written_on 66 (record_of 0 []) (record_of max_mark []) d v w (omega (arith, l)) e g
    ∙ into_over (record_of 0 [] ++ record_of max_mark []) d (omega (arith, length-append (record_of 0 []) (record_of max_mark []), l, m)))
