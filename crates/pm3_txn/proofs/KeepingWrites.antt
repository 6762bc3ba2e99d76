-- What a transaction knows of its objects stays known where it writes one, or a root slot.
use Rattle.std.proofs.Common.{◌≡◌, ◌∙◌, ℕ, true, Option, Some, None, unwrap_or, sym, ap, refl, subst}
use Rattle.std.specs.Option.{option_map}
use Rattle.std.specs.FinMap.{get}
use Rattle.pm3_core.specs.declared.naming.TheConstants.{BASE}
use Rattle.pm3_types.specs.Fields.{Fields}
use Rattle.pm3_types.specs.Layout.{page_in}
use Rattle.pm3_access.specs.declared.places.Place.{Place}
use Rattle.pm3_access.specs.Access.{is_object_held, value_written}
use Rattle.pm3_access.specs.Acts.{map_held, found_images, space_found, space_left}
use Rattle.pm3_access.specs.Holding.{Holding, HeldImages, HeldSpaceState}
use Rattle.pm3_access.specs.Roots.{root_written, images_rooted}
use Rattle.pm3_access.specs.Spots.{IsValueFor, has_names}
use Rattle.pm3_access.proofs.Homes.{is_some_none}
use Rattle.pm3_history.specs.Named.{book_of}
use Rattle.pm3_history.specs.Opens.{Opens}
use Rattle.pm3_history.specs.State.{State}
use Rattle.pm3_history.proofs.Laying.{some_of, one_value}
use Rattle.pm3_table.specs.declared.view.Told.{Told}
use Rattle.pm3_table.specs.declared.view.View.{View}
use Rattle.pm3_table.specs.Telling.{Lawful}
use Rattle.pm3_txn.specs.Knowing.{state_seen}
use Rattle.pm3_txn.specs.Owners.{IsHolding, KnowsHere, KnowsWordHere, name_here}
use Rattle.pm3_txn.specs.Works.{left_book, is_own_start}
use Rattle.pm3_txn.proofs.Changing.{IsChange, changed_found, rooted_change, written_change}
use Rattle.pm3_txn.proofs.Keeping.{FoundSame, Keeps, keeps_books}
use Rattle.pm3_txn.proofs.OwnerAnswers.{known_word}
use Rattle.pm3_txn.proofs.Seeing.{settled_now}
use Rattle.pm3_txn.proofs.WorksChange.{write_own}
use Rattle.pm3_txn.proofs.WorksOwn.{own_start_still, space_found_still}

-- where an object of the space begins one begins still, where one image is another
pub own_starts : (h new : Holding) (page : ℕ) → IsChange h new page → (a : ℕ) → is_own_start h a ≡ true → is_own_start new a ≡ true
own_starts h new page change a is = subst (λ (k : Holding). is_own_start k a ≡ true) change.is (own_start_still h page change.image change.now change.there change.starts a is)

pub change_found : (h new : Holding) (page : ℕ) → IsChange h new page → FoundSame h new
change_found h new page change = record {
  images = ap found_images (sym change.is) ∙ changed_found h page change.image change.now change.there;
  space = ap (λ (k : Holding). space_found k.space) (sym change.is) ∙ space_found_still h page change.image change.now change.there;
}

module _ (told : Told) (v : View) (number : ℕ) (h new : Holding) (a x : ℕ) (map : Fields) (place : Place) (holding : IsHolding told v number h) (lawful : Lawful told v.seen) (known : KnowsHere told v h a)
    (object : is_object_held BASE h a ≡ true) (map_is : map_held told.opening.catalog BASE h a ≡ Some map) (value : IsValueFor place x) (word : has_names map place ≡ true → KnowsWordHere told v h x)
    (is : value_written told.opening.catalog BASE h a place x ≡ Some new) where
  pub books_written : (st : State) → Opens BASE told.pages told.opening st → book_of BASE (space_left new.space) ≡ book_of BASE (space_left h.space)
  books_written st opens =
      let was = holding.works st opens in
      let has = some_of (get (left_book (state_seen told v st) h) a) (known.object st opens) in
      write_own told.opening.catalog told.pages (state_seen told v st) h new was.0 (settled_now told v.seen st lawful opens) was.1 a (name_here told v h st a) x map place object map_is
      (has.1 ∙ ap (λ (o : Option ℕ). Some (unwrap_or o 0)) (sym has.1)) value (λ names. known_word told v h st x opens (word names)) is

  pub keeps_written : Keeps told v h v new
  keeps_written = keeps_books told v h new (own_starts h new (page_in BASE a) (written_change told.opening.catalog h new a place x is)) books_written
      (change_found h new (page_in BASE a) (written_change told.opening.catalog h new a place x is))

-- a root slot is on a page that is held alone
pub same_space : (h new : Holding) (o : Option HeldImages) → option_map (λ (p : HeldImages). record h { pages = p }) o ≡ Some new → new.space ≡ h.space
same_space h new None is = absurd (is_some_none new is)
same_space h new (Some p) is = ap (λ (k : Holding). k.space) (sym (one_value (Some (record h { pages = p })) (record h { pages = p }) new refl is))

pub keeps_rooted : (told : Told) (v : View) (h new : Holding) (slot x : ℕ) → root_written h slot x ≡ Some new → Keeps told v h v new
keeps_rooted told v h new slot x is =
    let same : new.space ≡ h.space = same_space h new (images_rooted h.pages slot x) is in
    keeps_books told v h new (λ b own. ap (λ (s : Option HeldSpaceState). is_own_start (record { pages = new.pages; space = s }) b) same ∙ own)
    (λ st opens. ap (λ (s : Option HeldSpaceState). book_of BASE (space_left s)) same) (change_found h new 2 (rooted_change h new slot x is))
