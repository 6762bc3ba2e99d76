-- What is held of an object: its type, its name, its tail, and the values at its places.
use Rattle.std.specs.Prelude.{ℕ, ◌≡◌, ◌⊎◌, ◌+◌, Bool, not, Option, Some, None, slice_index}
use Rattle.std.specs.Option.{option_map}
use Rattle.pm3_core.specs.declared.naming.TheConstants.{BASE}
use Rattle.pm3_types.specs.Fields.{Fields}
use Rattle.pm3_types.specs.Layout.{head_at, type_in, tail_in, page_in, word_in}
use Rattle.pm3_access.specs.declared.places.Place.{Place}
use Rattle.pm3_access.specs.Access.{value_held, value_written}
use Rattle.pm3_access.specs.Acts.{map_held}
use Rattle.pm3_access.specs.Holding.{Holding, image_in}
use Rattle.pm3_access.specs.Sound.{refers_held}
use Rattle.pm3_access.specs.Spots.{has_names}
use Rattle.pm3_table.specs.declared.view.Told.{Told}

-- the type of the object at an address, the length of its tail, and its name
abbrev pub type_held : Holding → ℕ → Option ℕ
type_held h a = option_map (λ image. type_in (head_at BASE image a)) (image_in h (page_in BASE a))

abbrev pub tail_held : Holding → ℕ → Option ℕ
tail_held h a = option_map (λ image. tail_in (head_at BASE image a)) (image_in h (page_in BASE a))

abbrev pub name_held : Holding → ℕ → Option ℕ
name_held h a = option_map (λ image. slice_index image.sheet.words (word_in BASE a + 1)) (image_in h (page_in BASE a))

-- the object has this value at the place, and it is a reference or is none
pub record HasValue (told : Told) (h : Holding) (a : ℕ) (place : Place) (is_ref : Bool) (x : ℕ) : Type 0 where
  pub map : Fields
  pub map_is : map_held told.opening.catalog BASE h a ≡ Some map
  pub kind : has_names map place ≡ is_ref
  pub value : value_held told.opening.catalog BASE h a place ≡ Some x

-- the value was written there
pub record HasNewValue (told : Told) (old new : Holding) (a : ℕ) (place : Place) (is_ref : Bool) (x : ℕ) : Type 0 where
  pub map : Fields
  pub map_is : map_held told.opening.catalog BASE old a ≡ Some map
  pub kind : has_names map place ≡ is_ref
  pub written : value_written told.opening.catalog BASE old a place x ≡ Some new

-- the object, of this type, has no such place: there is none, or it is one for the other kind of values
pub record Lacks (told : Told) (h : Holding) (a : ℕ) (place : Place) (is_ref : Bool) (type : ℕ) : Type 0 where
  pub type_is : type_held h a ≡ Some type
  pub none : (value_held told.opening.catalog BASE h a place ≡ None) ⊎ (refers_held told.opening.catalog BASE h a place ≡ not is_ref)
