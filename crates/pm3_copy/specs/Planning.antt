-- What a plan has, and what makes it the plan of a pass.
use Rattle.std.specs.Prelude.{ℕ, ◌≡◌, ◌↔◌, ◌+◌, ◌*◌, ◌/◌, ◌≤◌, true, false, List, length, refl}
use Rattle.std.specs.List.{sum}
use Rattle.std.specs.FinMap as map
use Rattle.std.specs.FinSet as set
use Rattle.std.specs.Ordering.{nat_cmp}
use Rattle.std.specs.Coded.{Coded, code_by, coded×, coded_ℕ, coded_list}
use Rattle.pm3_types.specs.Fields.{Fields}
use Rattle.pm3_types.specs.PassMoves.{AreMovers, sizes, pages_wanted}
use Rattle.pm3_types.specs.PassSets.{Before, Promoted, Kept}
use Rattle.pm3_copy.specs.Spreading.{AreTurned}

-- the numbers of pages wanted, of pinned pages and of moves; the objects that move to each kind of page; the pages that turn
-- persistent, and those that are given up
pub record PlanState : Type 0 where
  pub persistent : ℕ
  pub volatile : ℕ
  pub pins : ℕ
  pub moved : ℕ
  pub promoted : List ℕ
  pub kept : List ℕ
  pub turned : set.FinSet nat_cmp
  pub freed : set.FinSet nat_cmp

abbrev pub plan_code : Coded PlanState
plan_code =
    code_by (ℕ × (ℕ × (ℕ × (ℕ × (List ℕ × (List ℕ × (set.FinSet nat_cmp × set.FinSet nat_cmp)))))))
    (coded× coded_ℕ (coded× coded_ℕ (coded× coded_ℕ (coded× coded_ℕ (coded× (coded_list coded_ℕ) (coded× (coded_list coded_ℕ) (coded× (set.code coded_ℕ) (set.code coded_ℕ))))))))
    (λ p. (p.persistent, (p.volatile, (p.pins, (p.moved, (p.promoted, (p.kept, (p.turned, p.freed))))))))
    (λ t. record {
      persistent = t.0;
      volatile = t.1.0;
      pins = t.1.1.0;
      moved = t.1.1.1.0;
      promoted = t.1.1.1.1.0;
      kept = t.1.1.1.1.1.0;
      turned = t.1.1.1.1.1.1.0;
      freed = t.1.1.1.1.1.1.1;
    }) (λ _. refl)

-- the plan of a pass over these images: it moves what is promoted and what is kept off the pinned pages, turns the pinned pages
-- with a promoted object, gives up the others of the space, and wants no more pages than its bound
pub record IsPlan (catalog : List Fields) (base : ℕ) (before : Before) (plan : PlanState) : Type 0 where
  pub promoted : AreMovers base before (Promoted catalog base before) plan.promoted
  pub kept : AreMovers base before (Kept catalog base before) plan.kept
  pub turned : AreTurned catalog base before plan.turned
  pub freed : (p : ℕ) → (set.contains plan.freed p ≡ true) ↔ ((map.contains_key before.space p ≡ true) × (set.contains before.pinned p ≡ false))
  pub persistent : plan.persistent ≡ pages_wanted (sizes catalog base before.space plan.promoted)
  pub volatile : plan.volatile ≡ pages_wanted (sizes catalog base before.space plan.kept)
  pub few_persistent : plan.persistent ≤ 1 + 2 * sum (sizes catalog base before.space plan.promoted) / 510
  pub few_volatile : plan.volatile ≤ 1 + 2 * sum (sizes catalog base before.space plan.kept) / 510
  pub pins : plan.pins ≡ set.len before.pinned
  pub moved : plan.moved ≡ length plan.promoted + length plan.kept
