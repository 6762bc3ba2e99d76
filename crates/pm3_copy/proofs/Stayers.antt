-- The objects that stay in the space are found besides those that turn persistent.
use Rattle.std.proofs.Common.{◌≡◌, ◌<◌, ◌≤◌, ◌+◌, ◌⊎◌, inl, inr, ◌∙◌, ℕ, zero, suc, true, List, [], ◌∷◌, length, get_or, sym, subst, arith}
use Rattle.std.specs.Ordering.{nat_cmp}
use Rattle.std.specs.FinSet as set
use Rattle.std.specs.List.{Contains}
use Rattle.std.proofs.lemmas.Bool.{cases_eq, cases_lt}
use Rattle.std.proofs.lemmas.List.{get_or_default}
use Rattle.pm3_types.specs.Fields.{Fields}
use Rattle.pm3_types.specs.Layout.{page_in}
use Rattle.pm3_types.specs.Least.Least.{begin, next}
use Rattle.pm3_types.specs.PassMoves.{IsListOf}
use Rattle.pm3_types.specs.PassSets.{Before, is_of_space, Promoted, StaysPinned, Kept, Live}
use Rattle.pm3_page.specs.PageMap.{Images}
use Rattle.pm3_page.specs.PageSheets.{AreSoundPages}
use Rattle.pm3_copy.specs.Finds.{Finds, Adds, AreFound}
use Rattle.pm3_copy.specs.Spreading.{IsSpread, RefersFor, before_of}
use Rattle.pm3_copy.specs.Whole.{IsObjectOf}
use Rattle.pm3_copy.proofs.Adding.{adds_keeps}
use Rattle.pm3_copy.proofs.WorkLists.{spread_more, place_kept, no_fewer}
use Rattle.pm3_copy.proofs.Wholes.{object_here, object_there}

pub is_in : (xs : List ℕ) (a : ℕ) → Contains xs a ⊎ (Contains xs a → ⊥)
is_in [] a = inr (λ c. absurd (omega (arith, c.1)))
is_in (x ∷ xs) a = elim (cases_eq x a) [
  | inl same ↦ inl (0, omega arith, same)
  | inr apart ↦ elim (is_in xs a) [
    | inl there ↦ inl (suc there.0, omega (arith, there.1), there.2)
    | inr nowhere ↦ inr (later apart nowhere)
  ]
]
  where
    later : (x ≡ a → ⊥) → (Contains xs a → ⊥) → Contains (x ∷ xs) a → ⊥
    later apart nowhere (zero, low, is) = apart is
    later apart nowhere (suc k, low, is) = nowhere (k, omega arith, is)

-- nothing is both promoted and kept
pub kept_apart : (catalog : List Fields) (base : ℕ) (before : Before) (a : ℕ) → Kept catalog base before a → Promoted catalog base before a → ⊥
kept_apart catalog base before _ (begin a first) promoted = first.2 promoted
kept_apart catalog base before _ (next a b member leads) promoted = leads.2 promoted

-- the state of the work list, behind the objects that were found before
pub record IsKeeping (catalog : List Fields) (base : ℕ) (images : Images) (pinned : set.FinSet nat_cmp) (old found : Finds) (done : ℕ) : Type 0 where
  pub same : found.objects ≡ old.objects
  pub more : length old.list ≤ length found.list
  pub place : (k : ℕ) → k < length old.list → get_or found.list k 0 ≡ get_or old.list k 0
  pub kept : (a : ℕ) → Contains old.list a → Contains found.list a
  pub live : (written : Images) → AreFound (Promoted catalog base (before_of images written pinned)) old
      → IsSpread (λ a. Contains old.list a ⊎ Kept catalog base (before_of images written pinned) a) (RefersFor catalog base images) found (length old.list) done
      × ((b : ℕ) → StaysPinned catalog base (before_of images written pinned) b → Contains found.list b)
  pub low : done ≤ length found.list

module _ (catalog : List Fields) (base : ℕ) (images : Images) (pinned : set.FinSet nat_cmp) (sound : AreSoundPages catalog base 16384 images) (old : Finds) (list : IsListOf (IsObjectOf base images) old.objects) where
  pub keeping_none : (found : Finds) → Adds (λ b. IsObjectOf base images b × (set.contains pinned (page_in base b) ≡ true)) old found → IsKeeping catalog base images pinned old found (length old.list)
  keeping_none found adds = record {
    same = adds.objects;
    more = no_fewer _ old found adds;
    place = λ k low. place_kept _ old found k adds low;
    kept = λ a is. adds_keeps _ old found a adds is;
    live = λ written are. (record { only = λ a is. member written are a is; closed = λ k b from until long there leads. absurd (omega arith) }, begun written);
    low = no_fewer _ old found adds;
  }
    where
      member : (written : Images) → AreFound (Promoted catalog base (before_of images written pinned)) old → (a : ℕ) → Contains found.list a
          → Contains old.list a ⊎ Kept catalog base (before_of images written pinned) a
      member written are a is = elim (is_in old.list a) [
        | inl was ↦ inl was
        | inr new ↦ elim (adds.only a is) [
          | inl was ↦ inl was
          | inr by ↦ inr (begin a (object_here catalog base 16384 images a sound by.1.0, by.1.1, λ promoted. new (are.all a promoted)))
        ]
      ]

      begun : (written : Images) (b : ℕ) → StaysPinned catalog base (before_of images written pinned) b → Contains found.list b
      begun written b stays = (let object = object_there catalog base 16384 images b sound stays.0 in adds.has b (list.all b object) (object, stays.1))

  pub keeping_more : (found new : Finds) (done : ℕ) → IsKeeping catalog base images pinned old found done → done < length found.list → Adds (RefersFor catalog base images (get_or found.list done 0)) found new
      → IsKeeping catalog base images pinned old new (done + 1)
  keeping_more found new done state low adds = record {
    same = adds.objects ∙ state.same;
    more = (let more = no_fewer _ found new adds in let before = state.more in omega arith);
    place = λ k low_. place_kept _ found new k adds (let before = state.more in omega arith) ∙ state.place k low_;
    kept = λ a is. adds_keeps _ found new a adds (state.kept a is);
    live = λ written are. (
      spread_more (λ a. Contains old.list a ⊎ Kept catalog base (before_of images written pinned) a) (RefersFor catalog base images) found new (length old.list) done (state.live written are).0 low adds (step written are),
      λ b stays. adds_keeps _ found new b adds ((state.live written are).1 b stays),
    );
    low = (let more = no_fewer _ found new adds in omega arith);
  }
    where
      step : (written : Images) → AreFound (Promoted catalog base (before_of images written pinned)) old → (b : ℕ) → Contains found.objects b
          → Contains old.list (get_or found.list done 0) ⊎ Kept catalog base (before_of images written pinned) (get_or found.list done 0)
          → RefersFor catalog base images (get_or found.list done 0) b → Contains old.list b ⊎ Kept catalog base (before_of images written pinned) b
      step written are b there member refers = elim (is_in old.list b) [ inl was ↦ inl was | inr new_ ↦ by new_ member ]
        where
          of_space : is_of_space base (before_of images written pinned) b ≡ true
          of_space = object_here catalog base 16384 images b sound (list.only b (subst (λ xs. Contains xs b) state.same there))

          by : (Contains old.list b → ⊥) → Contains old.list (get_or found.list done 0) ⊎ Kept catalog base (before_of images written pinned) (get_or found.list done 0)
              → Contains old.list b ⊎ Kept catalog base (before_of images written pinned) b
          by new_ (inl was) = inl (are.all b (next (get_or found.list done 0) b (are.only (get_or found.list done 0) was) (of_space, inl refers)))
          by new_ (inr kept) = inr (next (get_or found.list done 0) b kept (of_space, refers, λ promoted. new_ (are.all b promoted)))

  pub keeping_all : (found : Finds) (done : ℕ) → IsKeeping catalog base images pinned old found done → length found.list ≤ done → (written : Images)
      → AreFound (Promoted catalog base (before_of images written pinned)) old → AreFound (Live catalog base (before_of images written pinned)) found
  keeping_all found done state end written are = record { only = only_live; all = all_live }
    where
      only_live : (a : ℕ) → Contains found.list a → Live catalog base (before_of images written pinned) a
      only_live a is = elim ((state.live written are).0.only a is) [ inl was ↦ inl (are.only a was) | inr kept ↦ inr kept ]

      was_found : (k a : ℕ) → k < length found.list → k < length old.list → get_or found.list k a ≡ a → Contains old.list a
      was_found k a low before at = (k, before, get_or_default old.list k a 0 before ∙ sym (state.place k before) ∙ get_or_default found.list k 0 a low ∙ at)

      kept_found : (a : ℕ) → Kept catalog base (before_of images written pinned) a → Contains found.list a
      kept_found _ (begin a first) = (state.live written are).1 a first
      kept_found _ (next a b member leads) = by (kept_found a member)
        where
          by : Contains found.list a → Contains found.list b
          by (k, low, at) = elim (cases_lt k (length old.list)) [
            | inl before ↦ absurd (kept_apart catalog base (before_of images written pinned) a member (are.only a (was_found k a low before at)))
            | inr behind ↦ (
                let e : get_or found.list k 0 ≡ a = get_or_default found.list k 0 a low ∙ at in
                let object = object_there catalog base 16384 images b sound leads.0 in
                let P : ℕ → Type 0 = λ x. RefersFor catalog base images x b in
                (state.live written are).0.closed k b behind (omega arith) low (subst (λ xs. Contains xs b) (sym state.same) (list.all b object)) (subst P (sym e) leads.1))
          ]

      all_live : (a : ℕ) → Live catalog base (before_of images written pinned) a → Contains found.list a
      all_live a (inl promoted) = state.kept a (are.all a promoted)
      all_live a (inr kept) = kept_found a kept
