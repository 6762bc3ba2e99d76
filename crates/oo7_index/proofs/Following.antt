-- A reference that is followed to a place of the row.
use Rattle.std.proofs.Common.{◌≡◌, ◌≢◌, ◌↔◌, ◌+◌, ◌∙◌, ℕ, Bool, true, false, IsTrue, inr, sym, ap, arith}
use Rattle.pm3_core.specs.declared.naming.TheConstants.{BASE}
use Rattle.pm3_history.specs.Opens.{Opens}
use Rattle.pm3_history.specs.State.{State}
use Rattle.pm3_txn.specs.States.{TxnState, told_in}
use Rattle.oo7_schema.specs.Lookup.{reference}
use Rattle.oo7_objects.specs.Wholes.{Kept, KeepsRow, Knows, look_of, name_at, name_on}
use Rattle.oo7_objects.proofs.Knowing.{kept_same, kept_then}
use Rattle.oo7_objects.proofs.Rows.{row_then, row_wider}
use Rattle.oo7_index.proofs.Blaming.{some_there, spot_still}

module _ {R : Type 0} {a c d e : TxnState R} (i j f page spot : ℕ) (result : Bool) (known : Knows a (λ st w. name_at a st i ≢ 0))
    (kept_c : Kept a c) (row_c : KeepsRow a c 0 0) (lies : Knows c (λ st w. name_on c st page spot ≡ name_at a st i))
    (kept_d : Kept c d) (row_d : KeepsRow c d j (j + 1)) (read : Knows d (λ st w. reference (look_of w) (name_at c st i) f ≡ name_at d st j))
    (kept_e : Kept d e) (row_e : KeepsRow d e 0 0) (test : (st : State) → Opens BASE (told_in d).pages (told_in d).opening st → IsTrue result ↔ (name_at d st j ≡ 0)) where
  was_read : Knows d (λ st w. reference (look_of w) (name_at a st i) f ≡ name_at d st j)
  was_read = record {
    of = λ st g w whole. (let in_c = kept_d.was st g w whole in
        let in_a = kept_c.was st g w in_c in
        ap (λ (n : ℕ). reference (look_of w) n f) (sym (row_c.names st in_a.opens i (inr (omega arith)))) ∙ read.of st g w whole);
  }

  pub followed : result ≡ false → Knows e (λ st w. (reference (look_of w) (name_at a st i) f ≡ name_at e st j) × (name_at e st j ≢ 0))
  followed isnt = some_there (λ st w. reference (look_of w) (name_at a st i) f) j result kept_e row_e (kept_same e) test isnt was_read

  there : Knows c (λ st w. (name_on c st page spot ≡ name_at a st i) × (name_at a st i ≢ 0))
  there = record { of = λ st g w whole. (lies.of st g w whole, known.of st g w (kept_c.was st g w whole)) }

  pub nil_there : result ≡ true → Knows e (λ st w. (name_on e st page spot ≡ name_at a st i) × (reference (look_of w) (name_on e st page spot) f ≡ 0))
  nil_there nil = record {
    of = λ st g w whole. (let same = (spot_still (λ st. name_at a st i) j (j + 1) page spot (kept_then kept_d kept_e)
        (row_then c d e j (j + 1) kept_d.heap row_d (row_wider j (j + 1) row_e)) there).of st g w whole in
        let was = kept_e.was st g w whole in
        (same, ap (λ (n : ℕ). reference (look_of w) n f) same ∙ was_read.of st g w was ∙ (test st was.opens).0 nil));
  }
