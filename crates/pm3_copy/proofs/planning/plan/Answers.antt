use Rattle.std.proofs.Common.{◌≡◌, ◌↔◌, ◌+◌, ◌∙◌, ℕ, Bool, List, length, true, false, ap, sym, subst, arith, rules}
use Rattle.std.specs.FinSet as set
use Rattle.std.specs.List.{All}
use Rattle.pm3_core.specs.declared.naming.TheConstants.{BASE}
use Rattle.pm3_types.specs.PassMoves.{sizes, pages_wanted}
use Rattle.pm3_page.specs.PageSheets.{sheets_of}
use Rattle.pm3_copy.specs.Planning.{IsPlan}
use Rattle.pm3_copy.specs.Spreading.{before_of}
use Rattle.pm3_copy.specs.Whole.{IsObjectOf}
use Rattle.pm3_copy.proofs.PlanParts.{few, sizes_within, promoted_objects, kept_objects, all_of, same_pages}
use Rattle.pm3_copy.proofs.Settling.{wanted_bound}
use Rattle.pm3_copy.proofs.Subsets.{no_more}
use Rattle.pm3_copy.proofs.planning.plan.Goals as goal

pub pages_for-persistent-requires-clause-objects : goal.pages_for-persistent-requires-clause-objects
pages_for-persistent-requires-clause-objects c =
    subst (All (IsObjectOf BASE c.args.volatile.now.images)) (sym c.deref.ensures.value)
    (all_of (IsObjectOf BASE c.args.volatile.now.images) c.in_ok-promoted.field-0.promoted.items
    (promoted_objects c.args.catalog.now BASE c.args.volatile.now.images c.args.written.now.images c.args.pinned.now c.requires.volatile c.in_ok-promoted.field-0.promoted.items c.in_ok-promoted.ensures.promoted))

pub pages_for-persistent-requires-clause-few : goal.pages_for-persistent-requires-clause-few
pages_for-persistent-requires-clause-few c =
    let most = few c.args.catalog.now BASE c.args.volatile.now.images c.requires.volatile c.in_ok-promoted.field-0.promoted.items c.in_ok-promoted.ensures.promoted.rising
    (promoted_objects c.args.catalog.now BASE c.args.volatile.now.images c.args.written.now.images c.args.pinned.now c.requires.volatile c.in_ok-promoted.field-0.promoted.items c.in_ok-promoted.ensures.promoted) in
    let same = ap (λ (xs : List ℕ). length xs) c.deref.ensures.value in
    omega (arith, most, same)

pub pages_for-staying-requires-clause-objects : goal.pages_for-staying-requires-clause-objects
pages_for-staying-requires-clause-objects c =
    subst (All (IsObjectOf BASE c.args.volatile.now.images)) (sym c.deref-2.ensures.value)
    (all_of (IsObjectOf BASE c.args.volatile.now.images) c.in_ok-promoted.field-0.kept.items
    (kept_objects c.args.catalog.now BASE c.args.volatile.now.images c.args.written.now.images c.args.pinned.now c.requires.volatile c.in_ok-promoted.field-0.kept.items c.in_ok-promoted.ensures.kept))

pub pages_for-staying-requires-clause-few : goal.pages_for-staying-requires-clause-few
pages_for-staying-requires-clause-few c =
    let most = few c.args.catalog.now BASE c.args.volatile.now.images c.requires.volatile c.in_ok-promoted.field-0.kept.items c.in_ok-promoted.ensures.kept.rising
    (kept_objects c.args.catalog.now BASE c.args.volatile.now.images c.args.written.now.images c.args.pinned.now c.requires.volatile c.in_ok-promoted.field-0.kept.items c.in_ok-promoted.ensures.kept) in
    let same = ap (λ (xs : List ℕ). length xs) c.deref-2.ensures.value in
    omega (arith, most, same)

pub overflow_cast-moved : goal.overflow_cast-moved
overflow_cast-moved c =
    let first = few c.args.catalog.now BASE c.args.volatile.now.images c.requires.volatile c.in_ok-promoted.field-0.promoted.items c.in_ok-promoted.ensures.promoted.rising
    (promoted_objects c.args.catalog.now BASE c.args.volatile.now.images c.args.written.now.images c.args.pinned.now c.requires.volatile c.in_ok-promoted.field-0.promoted.items c.in_ok-promoted.ensures.promoted) in
    let second = few c.args.catalog.now BASE c.args.volatile.now.images c.requires.volatile c.in_ok-promoted.field-0.kept.items c.in_ok-promoted.ensures.kept.rising
    (kept_objects c.args.catalog.now BASE c.args.volatile.now.images c.args.written.now.images c.args.pinned.now c.requires.volatile c.in_ok-promoted.field-0.kept.items c.in_ok-promoted.ensures.kept) in
    let a : c.len.result ≡ length c.in_ok-promoted.field-0.promoted.items = search rules in
    let b : c.len-2.result ≡ length c.in_ok-promoted.field-0.kept.items = search rules in
    omega (arith, first, second, a, b)

pub returns-clause-plan : goal.returns-clause-plan
returns-clause-plan c =
    let wanted = c.pages_for-persistent.ensures ∙ ap (λ (xs : List ℕ). pages_wanted (sizes c.args.catalog.now BASE (sheets_of c.args.volatile.now.images) xs)) c.deref.ensures.value in
    let staying = c.pages_for-staying.ensures ∙ ap (λ (xs : List ℕ). pages_wanted (sizes c.args.catalog.now BASE (sheets_of c.args.volatile.now.images) xs)) c.deref-2.ensures.value in
    let a : c.len.result ≡ length c.in_ok-promoted.field-0.promoted.items = search rules in
    let b : c.len-2.result ≡ length c.in_ok-promoted.field-0.kept.items = search rules in
    let bound = wanted_bound (sizes c.args.catalog.now BASE (sheets_of c.args.volatile.now.images) c.in_ok-promoted.field-0.promoted.items)
    (sizes_within c.args.catalog.now BASE c.args.volatile.now.images c.requires.volatile c.in_ok-promoted.field-0.promoted.items
    (promoted_objects c.args.catalog.now BASE c.args.volatile.now.images c.args.written.now.images c.args.pinned.now c.requires.volatile c.in_ok-promoted.field-0.promoted.items c.in_ok-promoted.ensures.promoted)) in
    let bound_staying = wanted_bound (sizes c.args.catalog.now BASE (sheets_of c.args.volatile.now.images) c.in_ok-promoted.field-0.kept.items)
    (sizes_within c.args.catalog.now BASE c.args.volatile.now.images c.requires.volatile c.in_ok-promoted.field-0.kept.items
    (kept_objects c.args.catalog.now BASE c.args.volatile.now.images c.args.written.now.images c.args.pinned.now c.requires.volatile c.in_ok-promoted.field-0.kept.items c.in_ok-promoted.ensures.kept)) in
    let Is : List ℕ → List ℕ → Type 0 = λ first second. IsPlan c.args.catalog.now BASE (before_of c.args.volatile.now.images c.args.written.now.images c.args.pinned.now) (record {
      persistent = c.pages_for-persistent.result;
      volatile = c.pages_for-staying.result;
      pins = c.len-3.result;
      moved = c.len.result + c.len-2.result;
      promoted = first;
      kept = second;
      turned = c.in_ok-promoted.field-0.turned;
      freed = c.in_ok-promoted.field-0.freed;
    }) in
    let made : Is c.in_ok-promoted.field-0.promoted.items c.in_ok-promoted.field-0.kept.items = record {
      promoted = c.in_ok-promoted.ensures.promoted;
      kept = c.in_ok-promoted.ensures.kept;
      turned = c.in_ok-promoted.ensures.turned;
      freed = λ p. (let P : Bool → Type 0 = λ b. (set.contains c.in_ok-promoted.field-0.freed p ≡ true) ↔ ((b ≡ true) × (set.contains c.args.pinned.now p ≡ false)) in
          subst P (sym (same_pages c.args.volatile.now.images p)) (c.in_ok-promoted.ensures.freed p));
      persistent = wanted;
      volatile = staying;
      few_persistent = omega (arith, wanted, bound);
      few_volatile = omega (arith, staying, bound_staying);
      pins = c.len-3.ensures.count;
      moved = omega (arith, a, b);
    } in
    subst (λ first. Is first c.in_ok-left.left) (sym c.in_ok-going.ensures) (subst (Is c.in_ok-promoted.field-0.promoted.items) (sym c.in_ok-left.ensures) made)

pub returns-clause-few_turned : goal.returns-clause-few_turned
returns-clause-few_turned c =
    let fewer = no_more c.in_ok-promoted.field-0.turned c.args.pinned.now (λ p turns. ((c.in_ok-promoted.ensures.turned p).0 turns).0) in
    omega (arith, fewer, c.len-3.ensures.count)
