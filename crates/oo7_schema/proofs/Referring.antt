-- The names in an object of each class are those in the reference places of the class.
use Rattle.std.proofs.Common.{◌≡◌, ℕ, List, [], ◌∷◌, ◌++◌, length, Bool, true, false, cond, Option, Some, refl, sym, ap, subst, ◌∙◌, map, get_or}
use Rattle.std.specs.List.{slice_get, range_with_len}
use Rattle.pm3_types.specs.declared.places.Place.TheVariants.{Reference}
use Rattle.pm3_types.specs.Fields.{Fields, is_reference, has_refs}
use Rattle.pm3_types.specs.Record.{Record}
use Rattle.pm3_types.specs.Numbering.{names_of}
use Rattle.oo7_schema.specs.Lookup.{Look, listed_schema, value_in, tail_in}
use Rattle.oo7_schema.specs.Nodes.{IsOf}
use Rattle.oo7_schema.proofs.Pieces.{written_out}
use Rattle.oo7_schema.proofs.Rebasing.{Asks}

-- an object has the names at these places, and in its tail if it has one
abbrev pub NamesAre : List ℕ → Bool → Option Record → Type 0
NamesAre places tailed o =
    names_of listed_schema o ≡ map (λ (k : ℕ). value_in o (Reference k)) places ++ cond tailed (tail_in (λ (m : Fields). has_refs m.tail) o) []

-- so many fields, and a tail
abbrev written : ℕ → ℕ → (ℕ → ℕ) → List ℕ → Option Record
written class count field tail = Some (record { ty = class; fields = map field (range_with_len 0 count); tail = tail })

asks_of : (look : Look) (class n : ℕ) → (of : IsOf look class n) → Asks (slice_get listed_schema class) of.object
asks_of look class n of =
    subst (λ (o : Option Fields). Asks o of.object) (sym of.fits.of ∙ ap (λ (ty : ℕ). slice_get listed_schema ty) of.of) (of.fits.fields, of.fits.tail)

names_by : (look : Look) (class n count : ℕ) (places : List ℕ) (tailed : Bool) → (of : IsOf look class n) → length of.object.fields ≡ count
    → ((field : ℕ → ℕ) (tail : List ℕ) → NamesAre places tailed (written class count field tail)) → NamesAre places tailed (look n)
names_by look class n count places tailed of long each =
    let here : look n ≡ written class count (λ (i : ℕ). get_or of.object.fields i 0) of.object.tail =
    of.is ∙ (λ i. Some (record { ty = of.of i; fields = written_out of.object.fields count long i; tail = of.object.tail })) in
    subst (NamesAre places tailed) (sym here) (each (λ (i : ℕ). get_or of.object.fields i 0) of.object.tail)

pub module_names : (look : Look) (n : ℕ) → IsOf look 0 n → NamesAre (5 ∷ 6 ∷ []) false (look n)
unfolding is_reference
module_names look n of = names_by look 0 n 7 (5 ∷ 6 ∷ []) false of (asks_of look 0 n of).0 (λ field tail. refl)

pub manual_names : (look : Look) (n : ℕ) → IsOf look 1 n → NamesAre (1 ∷ 2 ∷ []) false (look n)
unfolding is_reference
manual_names look n of = names_by look 1 n 3 (1 ∷ 2 ∷ []) false of (asks_of look 1 n of).0 (λ field tail. refl)

pub complex_names : (look : Look) (n : ℕ) → IsOf look 2 n → NamesAre (2 ∷ 3 ∷ 4 ∷ []) false (look n)
unfolding is_reference
complex_names look n of = names_by look 2 n 5 (2 ∷ 3 ∷ 4 ∷ []) false of (asks_of look 2 n of).0 (λ field tail. refl)

pub base_names : (look : Look) (n : ℕ) → IsOf look 3 n → NamesAre (2 ∷ 3 ∷ 4 ∷ []) false (look n)
unfolding is_reference
base_names look n of = names_by look 3 n 5 (2 ∷ 3 ∷ 4 ∷ []) false of (asks_of look 3 n of).0 (λ field tail. refl)

pub composite_names : (look : Look) (n : ℕ) → IsOf look 4 n → NamesAre (2 ∷ 3 ∷ []) true (look n)
unfolding is_reference
composite_names look n of = names_by look 4 n 4 (2 ∷ 3 ∷ []) true of (asks_of look 4 n of).0 (λ field tail. refl)

pub document_names : (look : Look) (n : ℕ) → IsOf look 5 n → NamesAre (2 ∷ 3 ∷ []) false (look n)
unfolding is_reference
document_names look n of = names_by look 5 n 4 (2 ∷ 3 ∷ []) false of (asks_of look 5 n of).0 (λ field tail. refl)

pub atomic_names : (look : Look) (n : ℕ) → IsOf look 6 n → NamesAre (5 ∷ []) true (look n)
unfolding is_reference
atomic_names look n of = names_by look 6 n 6 (5 ∷ []) true of (asks_of look 6 n of).0 (λ field tail. refl)

pub connection_names : (look : Look) (n : ℕ) → IsOf look 7 n → NamesAre (2 ∷ 3 ∷ []) false (look n)
unfolding is_reference
connection_names look n of = names_by look 7 n 4 (2 ∷ 3 ∷ []) false of (asks_of look 7 n of).0 (λ field tail. refl)

pub chunk_names : (look : Look) (n : ℕ) → IsOf look 8 n → NamesAre (0 ∷ []) false (look n)
unfolding is_reference
chunk_names look n of = names_by look 8 n 1 (0 ∷ []) false of (asks_of look 8 n of).0 (λ field tail. refl)
