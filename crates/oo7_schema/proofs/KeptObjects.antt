-- What stays of a design's objects where all but its base assemblies stay, and its atomic parts but for date, x and y.
use Rattle.std.proofs.Common.{◌≡◌, ◌<◌, ◌≤◌, ℕ, zero, suc, List, [], ◌∷◌, ◌++◌, length, Bool, true, false, cond, not, Option, None, Some, inl, inr, refl, sym, ap, subst, ◌∙◌, map, get_or, nat_lt}
use Rattle.std.specs.Prelude.{◌==◌, ◌&&◌, All, fold, flat_map, slice_index}
use Rattle.std.specs.List.{AllByRecursion, slice_get}
use Rattle.std.proofs.lemmas.List.Folds.{list_any-append}
use Rattle.pm3_types.specs.declared.places.Place.TheVariants.{Word, Reference}
use Rattle.pm3_types.specs.Fields.{Fields, is_reference, has_refs, has_bytes}
use Rattle.pm3_types.specs.Record.{Record, Fits}
use Rattle.pm3_types.specs.Places.{is_place_by}
use Rattle.pm3_types.specs.Numbering.{is_among}
use Rattle.oo7_schema.specs.Lookup.{Look, listed_schema, class_in, class_of, value_in, tail_in, tail_by, word, reference, items, bytes}
use Rattle.oo7_schema.specs.Nodes.{IsOf}
use Rattle.oo7_schema.specs.Members.{places, document_of, root_part, neighbours}
use Rattle.oo7_schema.specs.Walk.{assemblies_under, bases_under, met_once, met_under, parts_of}
use Rattle.oo7_schema.specs.Texts.{IsChunk, AreChunks, HasText}
use Rattle.oo7_schema.specs.Nearness.{NearAtomic, Bounded}
use Rattle.oo7_schema.specs.Designs.{IsManual, IsBase, IsAssembly, IsConnection, IsAtomic, IsDocument, IsComposite}
use Rattle.oo7_schema.proofs.Testing.{itself, same_number, or_cases, or_first, or_second}

-- what is among one of two lists is among both together
pub joined_first : (xs ys : List ℕ) (n : ℕ) → is_among xs n ≡ true → is_among (xs ++ ys) n ≡ true
joined_first xs ys n is = list_any-append (λ (m : ℕ). n == m) xs ys ∙ or_first (is_among xs n) (is_among ys n) is

pub joined_second : (xs ys : List ℕ) (n : ℕ) → is_among ys n ≡ true → is_among (xs ++ ys) n ≡ true
joined_second xs ys n is = list_any-append (λ (m : ℕ). n == m) xs ys ∙ or_second (is_among xs n) (is_among ys n) is

-- what holds of each item holds of what is among them
pub all_among : (P : ℕ → Type 0) (xs : List ℕ) (n : ℕ) → AllByRecursion P xs → is_among xs n ≡ true → P n
all_among P [] n all is = cc
all_among P (x ∷ xs) n all is = elim (or_cases (n == x) (is_among xs n) is) [
  | inl here ↦ subst P (sym (same_number n x here)) all.0
  | inr later ↦ all_among P xs n all.1 later
]

pub class_is : (look : Look) (c n : ℕ) → IsOf look c n → class_of look n ≡ Some c
class_is look c n of = ap class_in of.is ∙ ap (λ (k : ℕ). Some k) of.of

name_by : (k : ℕ) (o : Option Fields) (s r : Record) → length s.fields ≡ length r.fields → get_or s.fields k 0 ≡ get_or r.fields k 0
    → cond (is_place_by o s (Reference k)) (slice_index s.fields k) 0 ≡ cond (is_place_by o r (Reference k)) (slice_index r.fields k) 0
name_by k None s r long at = refl
name_by k (Some m) s r long at = λ i. cond (nat_lt k (long i) && is_reference m k) (at i) 0

name_same : (k : ℕ) (s r : Record) → s.ty ≡ r.ty → length s.fields ≡ length r.fields → get_or s.fields k 0 ≡ get_or r.fields k 0
    → value_in (Some s) (Reference k) ≡ value_in (Some r) (Reference k)
name_same k s r class long at =
    ap (λ (ty : ℕ). cond (is_place_by (slice_get listed_schema ty) s (Reference k)) (slice_index s.fields k) 0) class ∙ name_by k (slice_get listed_schema r.ty) s r long at

word_by : (k : ℕ) (o : Option Fields) (s r : Record) → length s.fields ≡ length r.fields → get_or s.fields k 0 ≡ get_or r.fields k 0
    → cond (is_place_by o s (Word k)) (slice_index s.fields k) 0 ≡ cond (is_place_by o r (Word k)) (slice_index r.fields k) 0
word_by k None s r long at = refl
word_by k (Some m) s r long at = λ i. cond (nat_lt k (long i) && not (is_reference m k)) (at i) 0

word_same : (k : ℕ) (s r : Record) → s.ty ≡ r.ty → length s.fields ≡ length r.fields → get_or s.fields k 0 ≡ get_or r.fields k 0
    → value_in (Some s) (Word k) ≡ value_in (Some r) (Word k)
word_same k s r class long at =
    ap (λ (ty : ℕ). cond (is_place_by (slice_get listed_schema ty) s (Word k)) (slice_index s.fields k) 0) class ∙ word_by k (slice_get listed_schema r.ty) s r long at

abbrev pub places_in : Option Record → List ℕ
places_in o = value_in o (Reference 2) ∷ value_in o (Reference 3) ∷ value_in o (Reference 4) ∷ []

-- two walks depth first that go on alike from what they can meet are one
module _ (S : List ℕ) (next next2 : ℕ → List ℕ) (inside : (n : ℕ) → is_among S n ≡ true → AllByRecursion (λ (m : ℕ). is_among S m ≡ true) (next n))
    (alike : (n : ℕ) → is_among S n ≡ true → next2 n ≡ next n) where
  fold_same : (f g : List ℕ → ℕ → List ℕ) → ((met : List ℕ) (n : ℕ) → is_among S n ≡ true → f met n ≡ g met n)
      → (ns met : List ℕ) → AllByRecursion (λ (m : ℕ). is_among S m ≡ true) ns → fold f met ns ≡ fold g met ns
  fold_same f g same [] met all = refl
  fold_same f g same (n ∷ ns) met all = ap (λ (l : List ℕ). fold f l ns) (same met n all.0) ∙ fold_same f g same ns (g met n) all.1

  once_same : (f g : List ℕ → ℕ → List ℕ) → ((met : List ℕ) (n : ℕ) → is_among S n ≡ true → f met n ≡ g met n)
      → (b : Bool) (ns met : List ℕ) (n : ℕ) → AllByRecursion (λ (m : ℕ). is_among S m ≡ true) ns → met_once f ns b met n ≡ met_once g ns b met n
  once_same f g same true ns met n all = refl
  once_same f g same false ns met n all = fold_same f g same ns (met ++ n ∷ []) all

  met_same : (d : ℕ) (met : List ℕ) (n : ℕ) → is_among S n ≡ true → met_under next2 d met n ≡ met_under next d met n
  met_same zero met n among = refl
  met_same (suc d) met n among =
      ap (λ (ns : List ℕ). met_once (met_under next2 d) ns (is_among met n) met n) (alike n among)
      ∙ once_same (met_under next2 d) (met_under next d) (met_same d) (is_among met n) (next n) met n (inside n among)

-- the classes of the objects that stay
abbrev pub staying : List ℕ
staying = 1 ∷ 2 ∷ 4 ∷ 5 ∷ 7 ∷ 8 ∷ []

module _ (v w : Look) (same_at : (c n : ℕ) → IsOf v c n → is_among staying c ≡ true → w n ≡ v n) (near_part : (n : ℕ) → IsOf v 6 n → NearAtomic (v n) (w n)) where
  pub of_same : (c n : ℕ) → IsOf v c n → is_among staying c ≡ true → IsOf w c n
  of_same c n of kept = record { object = of.object; is = same_at c n of kept ∙ of.is; of = of.of; fits = of.fits }

  chunk_bytes : (n : ℕ) → IsChunk v n → bytes w n ≡ bytes v n
  chunk_bytes n chunk = ap (λ (o : Option Record). tail_in (λ (m : Fields). has_bytes m.tail) o) (same_at 8 n chunk.is refl)

  chunk_kept : (n : ℕ) → IsChunk v n → IsChunk w n
  chunk_kept n chunk = record {
    is = of_same 8 n chunk.is refl;
    some = subst (λ (l : List ℕ). 1 ≤ length l) (sym (chunk_bytes n chunk)) chunk.some;
    most = subst (λ (l : List ℕ). length l ≤ 3072) (sym (chunk_bytes n chunk)) chunk.most;
  }

  chunks_kept : (cs : List ℕ) (n : ℕ) → AreChunks v n cs → AreChunks w n cs
  chunks_kept [] n are = are
  chunks_kept (c ∷ cs) n are =
      (are.0, chunk_kept c are.1, subst (λ (m : ℕ). AreChunks w m cs) (sym (ap (λ (o : Option Record). value_in o (Reference 0)) (same_at 8 c are.1.is refl))) (chunks_kept cs (reference v c 0) are.2))

  texts_same : (cs : List ℕ) (n : ℕ) → AreChunks v n cs → flat_map (bytes w) cs ≡ flat_map (bytes v) cs
  texts_same [] n are = refl
  texts_same (c ∷ cs) n are = λ i. chunk_bytes c are.1 i ++ texts_same cs (reference v c 0) are.2 i

  pub text_kept : (count first last : ℕ) → HasText v count first last → HasText w count first last
  text_kept count first last text = record {
    before = text.before;
    are = chunks_kept (text.before ++ last ∷ []) first text.are;
    counted = ap (λ (l : List ℕ). length l) (texts_same (text.before ++ last ∷ []) first text.are) ∙ text.counted;
  }

  pub manual_kept : (n : ℕ) → IsManual v n → IsManual w n
  manual_kept n manual = record {
    is = of_same 1 n manual.is refl;
    text = subst (λ (o : Option Record). HasText w (value_in o (Word 0)) (value_in o (Reference 1)) (value_in o (Reference 2))) (sym (same_at 1 n manual.is refl))
        (text_kept (word v n 0) (reference v n 1) (reference v n 2) manual.text);
  }

  -- an assembly whose base assemblies are such as is said of them
  pub assembly_kept : (parts parts2 : List ℕ) (k n : ℕ) → ((b : ℕ) → is_among (bases_under v k n) b ≡ true → IsBase v parts b → IsBase w parts2 b)
      → IsAssembly v parts k n → IsAssembly w parts2 k n
  assembly_kept parts parts2 zero n bases base = bases n (or_first (n == n) false (itself n)) base
  assembly_kept parts parts2 (suc k) n bases is = (
    of_same 2 n is.0 refl,
    subst (λ (o : Option Record). AllByRecursion (IsAssembly w parts2 k) (places_in o)) (sym (same_at 2 n is.0 refl)) (
      assembly_kept parts parts2 k (reference v n 2) (λ b among. bases b (joined_first (bases_under v k (reference v n 2)) (bases_under v k (reference v n 3) ++ (bases_under v k (reference v n 4) ++ [])) b among)) is.1.0,
      (
        assembly_kept parts parts2 k (reference v n 3) (λ b among. bases b
            (joined_second (bases_under v k (reference v n 2)) (bases_under v k (reference v n 3) ++ (bases_under v k (reference v n 4) ++ [])) b
            (joined_first (bases_under v k (reference v n 3)) (bases_under v k (reference v n 4) ++ []) b among))) is.1.1.0,
        (
          assembly_kept parts parts2 k (reference v n 4) (λ b among. bases b
              (joined_second (bases_under v k (reference v n 2)) (bases_under v k (reference v n 3) ++ (bases_under v k (reference v n 4) ++ [])) b
              (joined_second (bases_under v k (reference v n 3)) (bases_under v k (reference v n 4) ++ []) b
              (joined_first (bases_under v k (reference v n 4)) [] b among)))) is.1.1.1.0,
          tt,
        ),
      ),
    ),
  )

  -- what is told of an assembly by those below it, and of a base assembly by its name, is as it was
  under_same : (f g : ℕ → ℕ → List ℕ) (here : ℕ → List ℕ) → ((n : ℕ) → f 0 n ≡ g 0 n)
      → ((k n : ℕ) → f (suc k) n ≡ here n ++ flat_map (f k) (places w n)) → ((k n : ℕ) → g (suc k) n ≡ here n ++ flat_map (g k) (places v n))
      → (parts : List ℕ) (k n : ℕ) → IsAssembly v parts k n → f k n ≡ g k n
  under_same f g here low up down parts zero n base = low n
  under_same f g here low up down parts (suc k) n is =
      up k n ∙ ap (λ (o : Option Record). here n ++ flat_map (f k) (places_in o)) (same_at 2 n is.0 refl)
      ∙ (λ i. here n ++ (under_same f g here low up down parts k (reference v n 2) is.1.0 i ++ (under_same f g here low up down parts k (reference v n 3) is.1.1.0 i ++ (under_same f g here low up down parts k (reference v n 4) is.1.1.1.0 i ++ []))))
      ∙ sym (down k n)

  pub assemblies_kept : (parts : List ℕ) (k n : ℕ) → IsAssembly v parts k n → assemblies_under w k n ≡ assemblies_under v k n
  assemblies_kept = under_same (assemblies_under w) (assemblies_under v) (λ n. n ∷ []) (λ n. refl) (λ k n. refl) (λ k n. refl)

  pub bases_kept : (parts : List ℕ) (k n : ℕ) → IsAssembly v parts k n → bases_under w k n ≡ bases_under v k n
  bases_kept = under_same (bases_under w) (bases_under v) (λ n. []) (λ n. refl) (λ k n. refl) (λ k n. refl)

  connection_kept : (parts : List ℕ) (n : ℕ) → IsConnection v parts n → IsConnection w parts n
  connection_kept parts n connection = record {
    is = of_same 7 n connection.is refl;
    from = subst (λ (o : Option Record). is_among parts (value_in o (Reference 2)) ≡ true) (sym (same_at 7 n connection.is refl)) connection.from;
    to = subst (λ (o : Option Record). is_among parts (value_in o (Reference 3)) ≡ true) (sym (same_at 7 n connection.is refl)) connection.to;
  }

  connections_kept : (parts ns : List ℕ) → AllByRecursion (IsConnection v parts) ns → AllByRecursion (IsConnection w parts) ns
  connections_kept parts [] all = tt
  connections_kept parts (n ∷ ns) all = (connection_kept parts n all.0, connections_kept parts ns all.1)

  ends_same : (parts ns : List ℕ) → AllByRecursion (IsConnection v parts) ns → map (λ (c : ℕ). reference w c 3) ns ≡ map (λ (c : ℕ). reference v c 3) ns
  ends_same parts [] all = refl
  ends_same parts (n ∷ ns) all = λ i. value_in (same_at 7 n all.0.is refl i) (Reference 3) ∷ ends_same parts ns all.1 i

  ends_inside : (parts ns : List ℕ) → AllByRecursion (IsConnection v parts) ns → AllByRecursion (λ (m : ℕ). is_among parts m ≡ true) (map (λ (c : ℕ). reference v c 3) ns)
  ends_inside parts [] all = tt
  ends_inside parts (n ∷ ns) all = (all.0.to, ends_inside parts ns all.1)

  atomic_of : (c n : ℕ) → IsAtomic v c n → NearAtomic (v n) (w n)
  atomic_of c n atomic = near_part n atomic.is

  pub atomic_items : (c n : ℕ) → IsAtomic v c n → items w n ≡ items v n
  atomic_items c n atomic =
      let a : NearAtomic (v n) (w n) = atomic_of c n atomic in
      ap (λ (o : Option Record). tail_in (λ (m : Fields). has_refs m.tail) o) a.is
      ∙ (λ i. tail_by (λ (m : Fields). has_refs m.tail) (slice_get listed_schema (a.class i)) (a.tail i))
      ∙ sym (ap (λ (o : Option Record). tail_in (λ (m : Fields). has_refs m.tail) o) a.was)

  pub id_kept : (c n : ℕ) → IsAtomic v c n → word w n 0 ≡ word v n 0
  id_kept c n atomic =
      let a : NearAtomic (v n) (w n) = atomic_of c n atomic in
      ap (λ (o : Option Record). value_in o (Word 0)) a.is ∙ word_same 0 a.new a.old a.class a.long a.id ∙ sym (ap (λ (o : Option Record). value_in o (Word 0)) a.was)

  atomic_fits : (n : ℕ) → (a : NearAtomic (v n) (w n)) → (of : IsOf v 6 n) → IsOf w 6 n
  atomic_fits n a of =
      let both : Some a.old ≡ Some of.object = sym a.was ∙ of.is in
      let same : a.old ≡ of.object = cc in
      let fits : Fits listed_schema a.old = subst (λ (r : Record). Fits listed_schema r) (sym same) of.fits in
      record {
        object = a.new;
        is = a.is;
        of = a.class ∙ ap (λ (r : Record). r.ty) same ∙ of.of;
        fits = record {
          map = fits.map;
          of = ap (λ (ty : ℕ). slice_get listed_schema ty) a.class ∙ fits.of;
          fields = a.long ∙ fits.fields;
          tail = λ empty. ap (λ (l : List ℕ). length l) a.tail ∙ fits.tail empty;
          bytes = λ kind. subst (λ (l : List ℕ). All (λ b. b < 256) l) (sym a.tail) (fits.bytes kind);
        };
      }

  atomic_kept : (c n : ℕ) → items w c ≡ items v c → Bounded w n → IsAtomic v c n → IsAtomic w c n
  atomic_kept c n whole bounded atomic =
      let a : NearAtomic (v n) (w n) = atomic_of c n atomic in
      record {
        is = atomic_fits n a atomic.is;
        part = ap (λ (o : Option Record). value_in o (Reference 5)) a.is ∙ name_same 5 a.new a.old a.class a.long a.part ∙ sym (ap (λ (o : Option Record). value_in o (Reference 5)) a.was) ∙ atomic.part;
        dated = bounded.dated;
        early = bounded.early;
        x = bounded.x;
        y = bounded.y;
        connections = subst (λ (ns : List ℕ). AllByRecursion (IsConnection w (items w c)) ns) (sym (atomic_items c n atomic))
            (subst (λ (ps : List ℕ). AllByRecursion (IsConnection w ps) (items v n)) (sym whole) (connections_kept (items v c) (items v n) atomic.connections));
      }

  parts_kept : (c : ℕ) → items w c ≡ items v c → ((p : ℕ) → IsAtomic v c p → Bounded w p) → (ns : List ℕ) → AllByRecursion (IsAtomic v c) ns → AllByRecursion (IsAtomic w c) ns
  parts_kept c whole bounds [] all = tt
  parts_kept c whole bounds (n ∷ ns) all = (atomic_kept c n whole (bounds n all.0) all.0, parts_kept c whole bounds ns all.1)

  document_kept : (c n : ℕ) → IsDocument v c n → IsDocument w c n
  document_kept c n document = record {
    is = of_same 5 n document.is refl;
    part = ap (λ (o : Option Record). value_in o (Reference 2)) (same_at 5 n document.is refl) ∙ document.part;
    last = document.last;
    text = subst (λ (o : Option Record). HasText w (value_in o (Word 1)) (value_in o (Reference 3)) document.last) (sym (same_at 5 n document.is refl))
        (text_kept (word v n 1) (reference v n 3) document.last document.text);
  }

  neighbours_inside : (c : ℕ) → AllByRecursion (IsAtomic v c) (items v c) → (p : ℕ) → is_among (items v c) p ≡ true → AllByRecursion (λ (m : ℕ). is_among (items v c) m ≡ true) (neighbours v p)
  neighbours_inside c parts p among = ends_inside (items v c) (items v p) (all_among (IsAtomic v c) (items v c) p parts among).connections

  neighbours_same : (c : ℕ) → AllByRecursion (IsAtomic v c) (items v c) → (p : ℕ) → is_among (items v c) p ≡ true → neighbours w p ≡ neighbours v p
  neighbours_same c parts p among =
      let atomic : IsAtomic v c p = all_among (IsAtomic v c) (items v c) p parts among in
      ap (λ (ns : List ℕ). map (λ (k : ℕ). reference w k 3) ns) (atomic_items c p atomic) ∙ ends_same (items v c) (items v p) atomic.connections

  pub items_kept : (atomics n : ℕ) → IsComposite v atomics n → items w n ≡ items v n
  items_kept atomics n composite = ap (λ (o : Option Record). tail_in (λ (m : Fields). has_refs m.tail) o) (same_at 4 n composite.is refl)

  pub visit_kept : (atomics n : ℕ) → IsComposite v atomics n → parts_of w atomics n ≡ parts_of v atomics n
  visit_kept atomics n composite =
      ap (λ (root : ℕ). met_under (neighbours w) atomics [] root) (ap (λ (o : Option Record). value_in o (Reference 3)) (same_at 4 n composite.is refl))
      ∙ met_same (items v n) (neighbours v) (neighbours w) (neighbours_inside n composite.parts) (neighbours_same n composite.parts) atomics [] (root_part v n) composite.root

  pub composite_kept : (atomics n : ℕ) → ((p : ℕ) → IsAtomic v n p → Bounded w p) → IsComposite v atomics n → IsComposite w atomics n
  composite_kept atomics n bounds composite =
      let whole : items w n ≡ items v n = items_kept atomics n composite in
      record {
        is = of_same 4 n composite.is refl;
        document = subst (λ (o : Option Record). IsDocument w n (value_in o (Reference 2))) (sym (same_at 4 n composite.is refl)) (document_kept n (document_of v n) composite.document);
        count = ap (λ (l : List ℕ). length l) whole ∙ composite.count;
        parts = subst (λ (ns : List ℕ). AllByRecursion (IsAtomic w n) ns) (sym whole) (parts_kept n whole bounds (items v n) composite.parts);
        root = ap (λ (o : Option Record). is_among (tail_in (λ (m : Fields). has_refs m.tail) o) (value_in o (Reference 3))) (same_at 4 n composite.is refl) ∙ composite.root;
        reached = subst (λ (ns : List ℕ). AllByRecursion (λ (p : ℕ). is_among (parts_of w atomics n) p ≡ true) ns) (sym whole)
            (subst (λ (met : List ℕ). AllByRecursion (λ (p : ℕ). is_among met p ≡ true) (items v n)) (sym (visit_kept atomics n composite)) composite.reached);
      }

  pub documents_kept : (atomics : ℕ) (cs : List ℕ) → AllByRecursion (IsComposite v atomics) cs → map (document_of w) cs ≡ map (document_of v) cs
  documents_kept atomics [] all = refl
  documents_kept atomics (c ∷ cs) all = λ i. value_in (same_at 4 c all.0.is refl i) (Reference 2) ∷ documents_kept atomics cs all.1 i

  pub atomics_kept : (atomics : ℕ) (cs : List ℕ) → AllByRecursion (IsComposite v atomics) cs → flat_map (items w) cs ≡ flat_map (items v) cs
  atomics_kept atomics [] all = refl
  atomics_kept atomics (c ∷ cs) all = λ i. items_kept atomics c all.0 i ++ atomics_kept atomics cs all.1 i
