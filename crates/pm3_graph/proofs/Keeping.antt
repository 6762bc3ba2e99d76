-- What a step keeps.
use Rattle.std.proofs.Common.{◌≡◌, ◌<◌, ◌^◌, ℕ, List, Bool, true, false, cond, Option, None, Some, IsSome, is_some, refl, sym, ap, subst, ◌∙◌, arith, length}
use Rattle.std.specs.Prelude.{◌==◌, ◌||◌, ◌&&◌, slice_get, slice_set, IfOk, All}
use Rattle.std.specs.Ordering.{nat_cmp, eq_by_cmp}
use Rattle.std.specs.Cmp.{nat_cmp_total, unsigned_tied}
use Rattle.std.specs.FinMap.{get, insert, get-insert}
use Rattle.std.proofs.lemmas.Bool.Decides.{nat_tests}
use Rattle.std.proofs.lemmas.List.{length-set, length-replicate}
use Rattle.std.proofs.lemmas.List.Elements.{All-set, All-replicate}
use Rattle.pm3_types.specs.declared.type_map.Tail.{Tail}
use Rattle.pm3_types.specs.declared.type_map.Tail.TheVariants.{Empty, Refs, Bytes}
use Rattle.pm3_types.specs.declared.places.Place.{Place}
use Rattle.pm3_types.specs.declared.places.Place.TheVariants as places
use Rattle.pm3_types.specs.Fields.{Fields, has_bytes, has_refs}
use Rattle.pm3_types.specs.Record.{Record, Fits, blank}
use Rattle.pm3_types.specs.Places.{is_place, is_place_of, is_place_by, value_at, with_value}
use Rattle.pm3_types.specs.Graph.{Part, IsPart}
use Rattle.pm3_graph.specs.declared.operations.Op.{Op}
use Rattle.pm3_graph.specs.declared.operations.Op.TheVariants.{New, Word, SetWord, Reference, SetReference, TailRef, SetTailRef, Byte, SetByte, Root, SetRoot}
use Rattle.pm3_graph.specs.Operation.{Outcome, outcome, read_of, write_of, new_of, root_of, set_root_of, step_if, unless_taken, with_record, with_root, IsAllowed, IsTailOf, AllFit}
use Rattle.pm3_graph.specs.StepLaws.{KeepsGraphs, KeepsParts, KeepsFits}

same_name : (q n : ℕ) → eq_by_cmp nat_cmp q n ≡ true → q ≡ n
same_name q n is = let tested : (q == n) ≡ true = sym (unsigned_tied q n) ∙ is in name_of tested
  where
    name_of : (q == n) ≡ true → q ≡ n
    name_of is = grind (arith, nat_tests)

-- what is found after an insertion is the new value under the key, or an old one
pub found_after : (P : ℕ → Record → Type 0) (g : Part) (name : ℕ) (s : Record) → ((n : ℕ) (r : Record) → get g.records n ≡ Some r → P n r) → P name s
    → (n : ℕ) (r : Record) → get (insert g.records name s) n ≡ Some r → P n r
found_after P g name s before here n r is = by (eq_by_cmp nat_cmp n name) refl (sym (get-insert nat_cmp_total g.records name s n) ∙ is)
  where
    by : (b : Bool) → eq_by_cmp nat_cmp n name ≡ b → cond b (Some s) (get g.records n) ≡ Some r → P n r
    by true same value =
        let one : s ≡ r = some_same value in
        subst (λ (k : ℕ). P k r) (sym (same_name n name same)) (subst (P name) one here)
      where
        some_same : ◌≡◌ {A = Option Record} (Some s) (Some r) → s ≡ r
        some_same e = cc
    by false other value = before n r value

-- a property of the graph after a step holds where it holds of each graph that the step may lead to
module _ (P : Part → Type 0) (catalog : List Fields) (g : Part) where
  abbrev pub Holds : Outcome → Type 0
  Holds o = IfOk o (λ s. P s.1)

  step_holds : (there : Bool) (answer : ℕ) (h : Part) → (there ≡ true → P h) → Holds (step_if there answer h)
  step_holds true answer h made = made refl
  step_holds false answer h made = tt

  read_holds : (name : ℕ) (place : Place) (o : Option Record) → P g → Holds (read_of catalog g name place o)
  read_holds name place None own = tt
  read_holds name place (Some r) own = step_holds (is_place catalog r place) (value_at r place) g (λ _. own)

  pub write_holds : (name : ℕ) (place : Place) (v : ℕ) (o : Option Record) → get g.records name ≡ o
      → ((r : Record) → get g.records name ≡ Some r → is_place catalog r place ≡ true → P (with_record g name (with_value r place v)))
      → Holds (write_of catalog g name place v o)
  write_holds name place v None is made = tt
  write_holds name place v (Some r) is made = step_holds (is_place catalog r place) 0 _ (made r is)

  new_holds : (name ty tail : ℕ) (taken : Bool) (o : Option Fields) → ((map : Fields) → taken ≡ false → o ≡ Some map → P (with_record g name (blank map ty tail)))
      → Holds (unless_taken taken name (new_of g name ty tail o))
  new_holds name ty tail true o made = tt
  new_holds name ty tail false None made = tt
  new_holds name ty tail false (Some map) made = made map refl refl

  root_holds : (slot : ℕ) (o : Option (List ℕ)) → P g → Holds (root_of g slot o)
  root_holds slot None own = tt
  root_holds slot (Some names) own = own

  set_root_holds : (slot to : ℕ) (o : Option (List ℕ)) → ((names : List ℕ) → o ≡ Some names → P (with_root g names slot to)) → Holds (set_root_of g slot to o)
  set_root_holds slot to None made = tt
  set_root_holds slot to (Some names) made = made names refl

-- names and roots
put_part : (g : Part) (name : ℕ) (r : Record) → IsPart g → (0 < name) × (name < 2 ^ 62) → IsPart (with_record g name r)
put_part g name r part valid = record {
  names = found_after (λ n _. (0 < n) × (n < 2 ^ 62)) g name r part.names valid;
  roots = part.roots;
}

root_part : (g : Part) (names : List ℕ) (slot to : ℕ) → IsPart g → g.roots ≡ Some names → to < 2 ^ 62 → IsPart (with_root g names slot to)
root_part g names slot to part is low = record {
  names = part.names;
  roots = λ others same.
      let one : slice_set names slot to ≡ others = list_same same in
      subst (λ (ns : List ℕ). (length ns ≡ 16) × All (λ n. n < 2 ^ 62) ns) one
      (length-set names slot to ∙ (part.roots names is).0, All-set (λ n. n < 2 ^ 62) names slot to low (part.roots names is).1);
}
  where
    list_same : {others : List ℕ} → ◌≡◌ {A = Option (List ℕ)} (Some (slice_set names slot to)) (Some others) → slice_set names slot to ≡ others
    list_same e = cc

not_nil : (name : ℕ) (old : Bool) → (name == 0) || old ≡ false → 0 < name
not_nil name old is = grind (arith, nat_tests)

part_after : (catalog : List Fields) (op : Op) (g : Part) → IsAllowed catalog op → IsPart g → IfOk (outcome catalog op g) (λ s. IsPart s.1)
part_after catalog (New name ty tail) g allowed part =
    new_holds IsPart catalog g name ty tail _ (slice_get catalog ty)
    (λ map free is. put_part g name (blank map ty tail) part (not_nil name (is_some (get g.records name)) free, allowed.0))
part_after catalog (Word name f) g allowed part = read_holds IsPart catalog g name (places.Word f) (get g.records name) part
part_after catalog (SetWord name f v) g allowed part =
    write_holds IsPart catalog g name (places.Word f) v (get g.records name) refl (λ r is there. put_part g name _ part (part.names name r is))
part_after catalog (Reference name f) g allowed part = read_holds IsPart catalog g name (places.Reference f) (get g.records name) part
part_after catalog (SetReference name f to) g allowed part =
    write_holds IsPart catalog g name (places.Reference f) to (get g.records name) refl (λ r is there. put_part g name _ part (part.names name r is))
part_after catalog (TailRef name k) g allowed part = read_holds IsPart catalog g name (places.TailRef k) (get g.records name) part
part_after catalog (SetTailRef name k to) g allowed part =
    write_holds IsPart catalog g name (places.TailRef k) to (get g.records name) refl (λ r is there. put_part g name _ part (part.names name r is))
part_after catalog (Byte name k) g allowed part = read_holds IsPart catalog g name (places.Byte k) (get g.records name) part
part_after catalog (SetByte name k v) g allowed part =
    write_holds IsPart catalog g name (places.Byte k) v (get g.records name) refl (λ r is there. put_part g name _ part (part.names name r is))
part_after catalog (Root slot) g allowed part = root_holds IsPart catalog g slot g.roots part
part_after catalog (SetRoot slot to) g allowed part =
    set_root_holds IsPart catalog g slot to g.roots (λ names is. root_part g names slot to part is allowed.1)

pub keeps_parts : KeepsParts
keeps_parts catalog op g h answer allowed step part =
    subst (λ (o : Outcome). IfOk o (λ s. IsPart s.1)) step (part_after catalog op g allowed part)

abbrev HasRoots : Part → Type 0
HasRoots g = IsSome g.roots

roots_after : (catalog : List Fields) (op : Op) (g : Part) → HasRoots g → IfOk (outcome catalog op g) (λ s. HasRoots s.1)
roots_after catalog (New name ty tail) g own = new_holds HasRoots catalog g name ty tail _ (slice_get catalog ty) (λ map free is. own)
roots_after catalog (Word name f) g own = read_holds HasRoots catalog g name (places.Word f) (get g.records name) own
roots_after catalog (SetWord name f v) g own = write_holds HasRoots catalog g name (places.Word f) v (get g.records name) refl (λ r is there. own)
roots_after catalog (Reference name f) g own = read_holds HasRoots catalog g name (places.Reference f) (get g.records name) own
roots_after catalog (SetReference name f to) g own = write_holds HasRoots catalog g name (places.Reference f) to (get g.records name) refl (λ r is there. own)
roots_after catalog (TailRef name k) g own = read_holds HasRoots catalog g name (places.TailRef k) (get g.records name) own
roots_after catalog (SetTailRef name k to) g own = write_holds HasRoots catalog g name (places.TailRef k) to (get g.records name) refl (λ r is there. own)
roots_after catalog (Byte name k) g own = read_holds HasRoots catalog g name (places.Byte k) (get g.records name) own
roots_after catalog (SetByte name k v) g own = write_holds HasRoots catalog g name (places.Byte k) v (get g.records name) refl (λ r is there. own)
roots_after catalog (Root slot) g own = root_holds HasRoots catalog g slot g.roots own
roots_after catalog (SetRoot slot to) g own = set_root_holds HasRoots catalog g slot to g.roots (λ names is. refl)

pub keeps_graphs : KeepsGraphs
keeps_graphs catalog op g h answer allowed step graph =
    (keeps_parts catalog op g h answer allowed step graph.0, subst (λ (o : Outcome). IfOk o (λ s. HasRoots s.1)) step (roots_after catalog op g graph.1))

-- records that fit
refs_no_bytes : (t : Tail) → has_refs t ≡ true → has_bytes t ≡ true → ⊥
refs_no_bytes Empty refs bytes = cc
refs_no_bytes Refs refs bytes = cc
refs_no_bytes Bytes refs bytes = cc

pub and_first : (a b : Bool) → a && b ≡ true → a ≡ true
and_first true b is = refl
and_first false b is = cc

module _ (catalog : List Fields) (r : Record) (fits : Fits catalog r) where
  field_fits : (f v : ℕ) → Fits catalog (with_value r (places.Word f) v)
  field_fits f v = record { map = fits.map; of = fits.of; fields = length-set r.fields f v ∙ fits.fields; tail = fits.tail; bytes = fits.bytes }

  item_fits : (k v : ℕ) → (has_bytes fits.map.tail ≡ true → v < 256) → Fits catalog (with_value r (places.Byte k) v)
  item_fits k v low = record {
    map = fits.map;
    of = fits.of;
    fields = fits.fields;
    tail = λ empty. length-set r.tail k v ∙ fits.tail empty;
    bytes = λ are. All-set (λ b. b < 256) r.tail k v (low are) (fits.bytes are);
  }

  no_bytes : (k : ℕ) → is_place catalog r (places.TailRef k) ≡ true → has_bytes fits.map.tail ≡ true → ⊥
  no_bytes k there bytes =
      let here : is_place_of fits.map r (places.TailRef k) ≡ true = ap (λ (o : Option Fields). is_place_by o r (places.TailRef k)) (sym fits.of) ∙ there in
      refs_no_bytes fits.map.tail (and_first (has_refs fits.map.tail) _ here) bytes

tail_allowed : (o : Option Fields) (map : Fields) (tail : ℕ) → IsTailOf o tail → o ≡ Some map → map.tail ≡ Empty → tail ≡ 0
tail_allowed o map tail allowed is = let P : Option Fields → Type 0 = λ o. IsTailOf o tail in subst P is allowed

blank_fits : (catalog : List Fields) (map : Fields) (ty tail : ℕ) → slice_get catalog ty ≡ Some map → IsTailOf (slice_get catalog ty) tail → Fits catalog (blank map ty tail)
blank_fits catalog map ty tail is allowed = record {
  map = map;
  of = is;
  fields = length-replicate map.count 0;
  tail = λ empty. length-replicate tail 0 ∙ tail_allowed (slice_get catalog ty) map tail allowed is empty;
  bytes = λ _. All-replicate (λ b. b < 256) tail 0 (omega arith);
}

put_fits : (catalog : List Fields) (g : Part) (name : ℕ) (s : Record) → AllFit catalog g → Fits catalog s → AllFit catalog (with_record g name s)
put_fits catalog g name s fit here = found_after (λ _ r. Fits catalog r) g name s fit here

fits_after : (catalog : List Fields) (op : Op) (g : Part) → IsAllowed catalog op → AllFit catalog g → IfOk (outcome catalog op g) (λ s. AllFit catalog s.1)
fits_after catalog (New name ty tail) g allowed fit =
    new_holds (AllFit catalog) catalog g name ty tail _ (slice_get catalog ty)
    (λ map free is. put_fits catalog g name _ fit (blank_fits catalog map ty tail is allowed.1))
fits_after catalog (Word name f) g allowed fit = read_holds (AllFit catalog) catalog g name (places.Word f) (get g.records name) fit
fits_after catalog (SetWord name f v) g allowed fit =
    write_holds (AllFit catalog) catalog g name (places.Word f) v (get g.records name) refl
    (λ r is there. put_fits catalog g name _ fit (field_fits catalog r (fit name r is) f v))
fits_after catalog (Reference name f) g allowed fit = read_holds (AllFit catalog) catalog g name (places.Reference f) (get g.records name) fit
fits_after catalog (SetReference name f to) g allowed fit =
    write_holds (AllFit catalog) catalog g name (places.Reference f) to (get g.records name) refl
    (λ r is there. put_fits catalog g name _ fit (field_fits catalog r (fit name r is) f to))
fits_after catalog (TailRef name k) g allowed fit = read_holds (AllFit catalog) catalog g name (places.TailRef k) (get g.records name) fit
fits_after catalog (SetTailRef name k to) g allowed fit =
    write_holds (AllFit catalog) catalog g name (places.TailRef k) to (get g.records name) refl
    (λ r is there. put_fits catalog g name _ fit
    (item_fits catalog r (fit name r is) k to (λ bytes. absurd (no_bytes catalog r (fit name r is) k there bytes))))
fits_after catalog (Byte name k) g allowed fit = read_holds (AllFit catalog) catalog g name (places.Byte k) (get g.records name) fit
fits_after catalog (SetByte name k v) g allowed fit =
    write_holds (AllFit catalog) catalog g name (places.Byte k) v (get g.records name) refl
    (λ r is there. put_fits catalog g name _ fit (item_fits catalog r (fit name r is) k v (λ _. allowed.1)))
fits_after catalog (Root slot) g allowed fit = root_holds (AllFit catalog) catalog g slot g.roots fit
fits_after catalog (SetRoot slot to) g allowed fit = set_root_holds (AllFit catalog) catalog g slot to g.roots (λ names is. fit)

pub keeps_fits : KeepsFits
keeps_fits catalog op g h answer allowed step fit =
    subst (λ (o : Outcome). IfOk o (λ s. AllFit catalog s.1)) step (fits_after catalog op g allowed fit)
