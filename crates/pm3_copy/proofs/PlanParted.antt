-- The images of a plan are parted.
use Rattle.std.proofs.Common.{◌≡◌, ◌<◌, ◌+◌, ◌∙◌, ◌⊎◌, ◌++◌, inl, inr, ℕ, true, List, take, drop, length, Some, None, sym, ap, arith}
use Rattle.std.specs.FinMap as map_of
use Rattle.std.specs.FinSet as set
use Rattle.std.specs.Ordering.{nat_cmp}
use Rattle.std.specs.List.{Contains}
use Rattle.pm3_types.specs.Fields.{Fields}
use Rattle.pm3_types.specs.Layout.{PageImage}
use Rattle.pm3_types.specs.PageForm.{is_memory_reference}
use Rattle.pm3_types.specs.PassMoves.{wanted_by}
use Rattle.pm3_page.specs.PageMap.{Images}
use Rattle.pm3_page.specs.PageSheets.{AreSoundPages, sheets_of}
use Rattle.pm3_copy.specs.Fresh.{AreBlank, AreLeast}
use Rattle.pm3_copy.specs.Moving.{AreMoved}
use Rattle.pm3_copy.specs.Planning.{PlanState, IsPlan}
use Rattle.pm3_copy.specs.Renaming.{AreUpdated, KeepsReferences}
use Rattle.pm3_copy.specs.Sending.{ArePlaced}
use Rattle.pm3_copy.specs.Spreading.{before_of}
use Rattle.pm3_copy.proofs.BothMoves.{among}
use Rattle.pm3_copy.proofs.Bounded.{bounded_now}
use Rattle.pm3_copy.proofs.Carried.{AreParted, IsHere, apart_now, sound_now}
use Rattle.pm3_copy.proofs.FreshPages.{halves_apart, filled_least, filled_pages, first_long, second_long}
use Rattle.pm3_copy.proofs.PlanParts.{same_pages}

module _ (catalog : List Fields) (base : ℕ) (space written blanks filled now_space now_written : Images) (pinned : set.FinSet nat_cmp) (plan : PlanState) (is : IsPlan catalog base (before_of space written pinned) plan)
    (within : (p : ℕ) → set.contains pinned p ≡ true → map_of.contains_key space p ≡ true) (apart : (p : ℕ) → map_of.contains_key space p ≡ true → map_of.get written p ≡ None)
    (blanks_apart : (p : ℕ) → map_of.contains_key blanks p ≡ true → (map_of.get written p ≡ None) × (map_of.get space p ≡ None)) (blank : AreBlank blanks) (long : map_of.len blanks ≡ plan.persistent + plan.volatile)
    (same : (p : ℕ) → map_of.contains_key filled p ≡ map_of.contains_key blanks p)
    (placed : (first second : List ℕ) → AreLeast (map_of.contains_key filled) 0 (first ++ second) → length first ≡ plan.persistent → length second ≡ plan.volatile
    → ArePlaced first second plan.turned plan.freed space written filled now_space now_written) where
  abbrev n : ℕ
  n = wanted_by catalog base (sheets_of space) plan.promoted

  abbrev first : List ℕ
  first = take n (map_of.keys blanks)

  abbrev second : List ℕ
  second = drop n (map_of.keys blanks)

  wanted : map_of.len blanks ≡ n + plan.volatile
  wanted = omega (arith, long, is.persistent)

  pub parted_of : AreParted first second plan.turned plan.freed pinned space written filled now_space now_written
  parted_of = (let least = filled_least blanks blank n plan.volatile wanted filled same in record {
    placed = placed first second least (first_long blanks blank n plan.volatile wanted ∙ sym is.persistent) (second_long blanks blank n plan.volatile wanted);
    turned_pinned = λ p turns. ((is.turned p).0 turns).0;
    frees = λ p. (λ out. (let parts = (is.freed p).0 out in (sym (same_pages space p) ∙ parts.0, parts.1)), λ parts. (is.freed p).1 (same_pages space p ∙ parts.0, parts.1));
    within = within;
    apart = apart;
    filled_apart = λ p there. blanks_apart p (sym (same p) ∙ there);
    pages = filled_pages blanks blank n plan.volatile wanted filled same;
    lists_apart = halves_apart (map_of.contains_key filled) 0 first second least;
  })

  pub parted_apart : (p : ℕ) → map_of.contains_key now_space p ≡ true → map_of.get now_written p ≡ None
  parted_apart = apart_now first second plan.turned plan.freed pinned space written filled now_space now_written parted_of

  module _ (of_space : AreSoundPages catalog base 16384 space) (of_written : AreSoundPages catalog base 16384 written) (of_filled : AreSoundPages catalog base 16384 filled) where
    pub parted_sound : (images : Images) → ((p : ℕ) (image : PageImage) → map_of.get images p ≡ Some image → IsHere now_space now_written p image) → AreSoundPages catalog base 16384 images
    parted_sound images here = sound_now first second plan.turned plan.freed pinned space written filled now_space now_written parted_of catalog base images of_space of_written of_filled here

    -- for each bound
    pub parted_bounded : (promoted kept : List ℕ) (to : ℕ → ℕ) (new_space new_written : Images) (pages : ℕ) → AreMoved catalog base space promoted kept to blanks filled → AreUpdated catalog to now_space new_space
        → AreUpdated catalog to now_written new_written → AreSoundPages catalog base pages space → AreSoundPages catalog base pages written → ((p : ℕ) → map_of.contains_key blanks p ≡ true → p < pages)
        → AreSoundPages catalog base 16384 new_space → AreSoundPages catalog base 16384 new_written → AreSoundPages catalog base pages new_space × AreSoundPages catalog base pages new_written
    parted_bounded promoted kept to new_space new_written pages moved space_updated written_updated space_bounded written_bounded fresh space_sound written_sound =
        (all new_space space_sound (λ p image on. inl on), all new_written written_sound (λ p image on. inr on))
      where
        all : (images : Images) → AreSoundPages catalog base 16384 images → ((p : ℕ) (now : PageImage) → map_of.get images p ≡ Some now → IsHere new_space new_written p now) → AreSoundPages catalog base pages images
        all = bounded_now catalog base pages first second plan.turned plan.freed pinned space written blanks filled now_space now_written new_space new_written promoted kept to parted_of of_space of_written of_filled blank moved
            space_updated written_updated space_bounded written_bounded fresh

-- what moves goes where references may lead
pub keeps_references : (catalog : List Fields) (base : ℕ) (space : Images) (promoted kept : List ℕ) (to : ℕ → ℕ) (old new : Images) → AreMoved catalog base space promoted kept to old new → KeepsReferences base to
keeps_references catalog base space promoted kept to old new moved w is = by (among promoted w) (among kept w)
  where
    by : Contains promoted w ⊎ (Contains promoted w → ⊥) → Contains kept w ⊎ (Contains kept w → ⊥) → is_memory_reference base 16384 (to w) ≡ true
    by (inl c) other = (moved.moved w (inl c)).1
    by (inr none) (inl c) = (moved.moved w (inr c)).1
    by (inr none) (inr neither) = ap (is_memory_reference base 16384) (moved.others w none neither) ∙ is
