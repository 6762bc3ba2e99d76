-- A work list comes to the least set.
use Rattle.std.proofs.Common.{◌≡◌, ◌<◌, ◌≤◌, ◌+◌, inl, inr, ◌∙◌, ℕ, length, get_or, sym, ap, subst, arith, length-append}
use Rattle.std.proofs.Math.ListN.{get_or-append}
use Rattle.std.specs.List.{Contains}
use Rattle.std.proofs.lemmas.Bool.{cases_eq}
use Rattle.std.proofs.lemmas.List.{get_or_default}
use Rattle.std.proofs.lemmas.List.Elements.{Contains-get_or}
use Rattle.pm3_types.specs.Least.{Least}
use Rattle.pm3_types.specs.Least.Least.{begin, next}
use Rattle.pm3_copy.specs.Finds.{Finds, Adds}
use Rattle.pm3_copy.specs.Spreading.{IsSpread}
use Rattle.pm3_copy.proofs.Adding.{adds_keeps}

-- what was found before keeps its place
pub place_kept : (P : ℕ → Type 0) (old new : Finds) (k : ℕ) → Adds P old new → k < length old.list → get_or new.list k 0 ≡ get_or old.list k 0
place_kept P old new k adds low = ap (λ xs. get_or xs k 0) adds.front.1 ∙ get_or-append old.list adds.front.0 0 k low

pub no_fewer : (P : ℕ → Type 0) (old new : Finds) → Adds P old new → length old.list ≤ length new.list
no_fewer P old new adds = (let long = length-append {A = ℕ} old.list adds.front.0 in let e = ap length adds.front.1 in omega arith)

pub spread_none : (InSet : ℕ → Type 0) (Leads : ℕ → ℕ → Type 0) (found : Finds) (first : ℕ) → ((a : ℕ) → Contains found.list a → InSet a) → IsSpread InSet Leads found first first
spread_none InSet Leads found first only = record { only = only; closed = λ k b low high long there leads. absurd (omega arith) }

-- one find more has been followed
pub spread_more : (InSet : ℕ → Type 0) (Leads : ℕ → ℕ → Type 0) (old new : Finds) (first done : ℕ) → IsSpread InSet Leads old first done → done < length old.list
    → Adds (Leads (get_or old.list done 0)) old new → ((b : ℕ) → Contains old.objects b → InSet (get_or old.list done 0) → Leads (get_or old.list done 0) b → InSet b)
    → IsSpread InSet Leads new first (done + 1)
spread_more InSet Leads old new first done spread low adds step = record {
  only = λ a is. elim (adds.only a is) [
    | inl was ↦ spread.only a was
    | inr by ↦ step a by.0 (spread.only (get_or old.list done 0) (Contains-get_or old.list done 0 low)) by.1
  ];
  closed = closes;
}
  where
    closes : (k b : ℕ) → first ≤ k → k < done + 1 → k < length new.list → Contains new.objects b → Leads (get_or new.list k 0) b → Contains new.list b
    closes k b from until long there leads =
        let there_old : Contains old.objects b = subst (λ xs. Contains xs b) adds.objects there in
        let P : ℕ → Type 0 = λ a. Leads a b in
        elim (cases_eq k done) [
          | inl same ↦ (let e : get_or new.list k 0 ≡ get_or old.list done 0 = ap (λ j. get_or new.list j 0) same ∙ place_kept _ old new done adds low in adds.has b there_old (subst P e leads))
          | inr apart ↦ (
              let e : get_or new.list k 0 ≡ get_or old.list k 0 = place_kept _ old new k adds (omega arith) in
              adds_keeps _ old new b adds (spread.closed k b from (omega arith) (omega arith) there_old (subst P e leads)))
        ]

-- at its end the list has the whole least set
pub complete : (InSet Begins : ℕ → Type 0) (Leads Follows : ℕ → ℕ → Type 0) (found : Finds) (done : ℕ) → IsSpread InSet Follows found 0 done → length found.list ≤ done
    → ((b : ℕ) → Begins b → Contains found.list b) → ((a b : ℕ) → Leads a b → Contains found.objects b × Follows a b) → (a : ℕ) → Least Begins Leads a → Contains found.list a
complete InSet Begins Leads Follows found done spread end begun to _ (begin a first) = begun a first
complete InSet Begins Leads Follows found done spread end begun to _ (next a b member leads) = by (complete InSet Begins Leads Follows found done spread end begun to a member)
  where
    by : Contains found.list a → Contains found.list b
    by (k, low, is) =
        let e : get_or found.list k 0 ≡ a = get_or_default found.list k 0 a low ∙ is in
        let P : ℕ → Type 0 = λ x. Follows x b in
        let there = to a b leads in
        spread.closed k b (omega arith) (omega arith) low there.0 (subst P (sym e) there.1)
