-- The parts of a holding, as a commit with a pass makes room in them.
use Rattle.std.proofs.Common.{◌≡◌, ◌∙◌, ℕ, true, Option, Some, None, refl, sym, ap, subst}
use Rattle.std.proofs.lemmas.Bool.{false≢true}
use Rattle.std.specs.Option.{option_map}
use Rattle.std.specs.FinSet as set
use Rattle.pm3_access.specs.declared.parted.Parted.{Parted}
use Rattle.pm3_access.specs.FreeList.{Numbers}
use Rattle.pm3_access.specs.Parting.{CanRejoin, parted_by_space}
use Rattle.pm3_access.specs.Parts.{SpaceRest, rest_with_free}
use Rattle.pm3_txn.specs.PassSteps.{HasMoreRoom, IsSameButFree, is_free}

-- other free pages and other room
same_but : (free : SpaceRest → Numbers) (room : SpaceRest → ℕ) → ((s : SpaceRest) (p : ℕ) → set.contains s.free p ≡ true → set.contains (free s) p ≡ true) → (o : Option SpaceRest)
    → IsSameButFree o (option_map (λ s. rest_with_free s (free s) (room s)) o)
same_but free room more None = tt
same_but free room more (Some s) = (refl, more s)

pub more_by : (free : SpaceRest → Numbers) (room : SpaceRest → ℕ) → ((s : SpaceRest) (p : ℕ) → set.contains s.free p ≡ true → set.contains (free s) p ≡ true) → (old new : Parted)
    → new ≡ parted_by_space (λ s. rest_with_free s (free s) (room s)) old → (CanRejoin old → CanRejoin new) → HasMoreRoom old new
more_by free room more old new is rejoin = subst (HasMoreRoom old) (sym is) (record {
  volatile = refl;
  written = refl;
  pages = refl;
  found = refl;
  space = same_but free room more old.rest.space;
  rejoin = subst (λ (p : Parted). CanRejoin old → CanRejoin p) is rejoin;
})

-- none
same_itself : (o : Option SpaceRest) → IsSameButFree o o
same_itself None = tt
same_itself (Some s) = (refl, λ p is. is)

pub no_more_room : (p : Parted) → HasMoreRoom p p
no_more_room p = record { volatile = refl; written = refl; pages = refl; found = refl; space = same_itself p.rest.space; rejoin = λ can. can }

-- one after another
same_both : (a b c : Option SpaceRest) → IsSameButFree a b → IsSameButFree b c → IsSameButFree a c
same_both None None c first second = second
same_both None (Some t) c first second = absurd first
same_both (Some s) None c first second = absurd first
same_both (Some s) (Some t) None first second = absurd second
same_both (Some s) (Some t) (Some u) first second = (second.0 ∙ ap (λ (x : SpaceRest). record x { free = u.free; room = u.room }) first.0, λ p is. second.1 p (first.1 p is))

pub more_both : (a b c : Parted) → HasMoreRoom a b → HasMoreRoom b c → HasMoreRoom a c
more_both a b c first second = record {
  volatile = second.volatile ∙ first.volatile;
  written = second.written ∙ first.written;
  pages = second.pages ∙ first.pages;
  found = second.found ∙ first.found;
  space = same_both a.rest.space b.rest.space c.rest.space first.space second.space;
  rejoin = λ can. second.rejoin (first.rejoin can);
}

-- a free page stays free
pub still_free : (a b : Option SpaceRest) → IsSameButFree a b → (q : ℕ) → is_free a q ≡ true → is_free b q ≡ true
still_free None b same q is = absurd (false≢true is)
still_free (Some s) None same q is = absurd same
still_free (Some s) (Some t) same q is = same.1 q is
