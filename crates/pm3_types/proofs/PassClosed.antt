-- Nothing that a pass leaves refers to what is dead.
use Rattle.std.proofs.Common.{◌≡◌, ◌∙◌, ◌&&◌, inl, inr, ℕ, true, List, Option, Some, None, refl, sym, ap}
use Rattle.std.specs.FinMap.{get}
use Rattle.std.specs.Option.{option_or}
use Rattle.pm3_types.specs.Fields.{Fields}
use Rattle.pm3_types.specs.Layout.{Sheet, page_in, word_in, is_address}
use Rattle.pm3_types.specs.Least.Least.{begin, next}
use Rattle.pm3_types.specs.Objects.{is_object_at, is_unmoved_on, RefersTo, RootIs}
use Rattle.pm3_types.specs.PassSets.{Before, Live, IsDead}
use Rattle.pm3_types.specs.PassShown.{AreJoined, IsClosed}
use Rattle.pm3_types.specs.Shown.{Images}

-- the sheet of a page of one of two collections that are joined
pub in_first : (xs ys both : Images) (p : ℕ) (sheet : Sheet) → AreJoined xs ys both → get xs p ≡ Some sheet → get both p ≡ Some sheet
in_first xs ys both p sheet joined is = joined.has p ∙ ap (λ (o : Option Sheet). option_or o (get ys p)) is

pub in_second : (xs ys both : Images) (p : ℕ) → AreJoined xs ys both → get xs p ≡ None → get both p ≡ get ys p
in_second xs ys both p joined none = joined.has p ∙ ap (λ (o : Option Sheet). option_or o (get ys p)) none

-- an object of images that agree on its page
pub object_alike : (base : ℕ) (images others : Images) (a : ℕ) → get images (page_in base a) ≡ get others (page_in base a) → is_object_at base images a ≡ is_object_at base others a
object_alike base images others a same = ap (λ (o : Option Sheet). is_address base a && is_unmoved_on o (word_in base a)) same

module _ (catalog : List Fields) (base : ℕ) (before : Before) (all : Images) (joined : AreJoined before.space before.written all) where
  refers_alike : (images : Images) (a b : ℕ) → get all (page_in base a) ≡ get images (page_in base a) → RefersTo catalog base all a b → RefersTo catalog base images a b
  refers_alike images a b same r = record { sheet = r.sheet; place = r.place; on = sym same ∙ r.on; reference = r.reference; is = r.is }

  dead_roots : get before.space 2 ≡ None → (b : ℕ) → RootIs all b → IsDead catalog base before b → ⊥
  dead_roots none b r dead =
      let written : RootIs before.written b = record { sheet = r.sheet; slot = r.slot; on = sym (in_second before.space before.written all 2 joined none) ∙ r.on; low = r.low; is = r.is } in
      dead.1 (inl (begin b (dead.0, inl written)))

  dead_objects : (a b : ℕ) → is_object_at base all a ≡ true → (IsDead catalog base before a → ⊥) → RefersTo catalog base all a b → IsDead catalog base before b → ⊥
  dead_objects a b is there r dead = by (get before.space (page_in base a)) refl
    where
      by : (o : Option Sheet) → get before.space (page_in base a) ≡ o → ⊥
      by None none =
          let same = in_second before.space before.written all (page_in base a) joined none in
          dead.1 (inl (begin b (dead.0, inr (a, sym (object_alike base all before.written a same) ∙ is, refers_alike before.written a b same r))))
      by (Some sheet) on = there (sym (object_alike base all before.space a same) ∙ is, alive)
        where
          same : get all (page_in base a) ≡ get before.space (page_in base a)
          same = in_first before.space before.written all (page_in base a) sheet joined on ∙ sym on

          refers : RefersTo catalog base before.space a b
          refers = refers_alike before.space a b same r

          alive : Live catalog base before a → ⊥
          alive (inl promoted) = dead.1 (inl (next a b promoted (dead.0, inl refers)))
          alive (inr kept) = dead.1 (inr (next a b kept (dead.0, refers, λ promoted. dead.1 (inl promoted))))

  pub dead_closed : get before.space 2 ≡ None → IsClosed catalog base (IsDead catalog base before) all
  dead_closed none = record { roots = dead_roots none; objects = dead_objects }
