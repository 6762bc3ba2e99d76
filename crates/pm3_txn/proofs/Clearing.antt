-- A row that is cleared place by place.
use Rattle.std.proofs.Common.{◌≡◌, ℕ, ◌+◌, List, ◌∷◌, refl, sym, ap, ◌∙◌, arith}
use Rattle.atomic_table.specs.Seated.{TableId}
use Rattle.pm3_table.specs.declared.view.Deed.{Deed}
use Rattle.pm3_table.specs.declared.view.Deed.TheVariants.{Stored}
use Rattle.pm3_table.specs.declared.view.View.{View}
use Rattle.pm3_table.specs.Deeds.{word_of, marks_of}
use Rattle.pm3_table.specs.Ops.{did}
use Rattle.pm3_table.specs.Passes.{Becomes}
use Rattle.pm3_table.specs.Seats.{both_views}
use Rattle.pm3_table.proofs.Put.{put_cases}
use Rattle.pm3_txn.specs.Crews.{IsRowCleared}

-- before the first place
pub cleared_none : (pass : TableId × View) → IsRowCleared 0 pass pass
cleared_none pass = record { row = λ q low. absurd (omega (arith, low)); marks = λ p. refl; view = (refl, refl) }

-- one place more
pub cleared_more : (n : ℕ) (old mid new : TableId × View) → IsRowCleared n old mid → Becomes mid new (did mid.1 (Stored n 0)) → IsRowCleared (n + 1) old new
cleared_more n old mid new is step =
    let logs : new.1.log ≡ Stored n 0 ∷ mid.1.log = ap (λ (v : View). v.log) step.1 in
    record {
      row = λ q low. ap (λ (l : List Deed). word_of l q) logs
          ∙ put_cases (λ x. x ≡ 0) (word_of mid.1.log) n 0 q (λ _. refl) (λ other. is.row q (omega (arith, low, other)));
      marks = λ p. ap (λ (l : List Deed). marks_of l p) logs ∙ is.marks p;
      view = (
        step.0 ∙ is.view.0,
        step.1 ∙ (ap (λ (v : View). record v { log = Stored n 0 ∷ mid.1.log }) is.view.1 ∙ (λ i. record old.1 { log = sym logs i })),
      );
    }

-- a view takes in the same of another, whatever that one did with its row
pub joined_same : (v x y : View) → y ≡ record x { log = y.log } → both_views v y ≡ both_views v x
joined_same v x y is = ap (both_views v) is
