-- Swaps of x and y at the parts that visits meet leave a design.
use Rattle.std.proofs.Common.{◌≡◌, ◌-◌, ◌<◌, ◌≤◌, ◌^◌, ℕ, zero, suc, List, [], ◌∷◌, ◌++◌, Bool, true, false, cond, not, Option, None, Some, ◌⊎◌, inl, inr, refl, sym, arith, ap, subst, ◌∙◌, map, replicate, get_or}
use Rattle.std.specs.Prelude.{◌==◌, ◌||◌, flat_map, filter, fold, slice_index, unwrap_or}
use Rattle.std.specs.List.{AllByRecursion, slice_get}
use Rattle.std.proofs.lemmas.List.Folds.{list_any-append}
use Rattle.pm3_types.specs.declared.places.Place.TheVariants.{Word}
use Rattle.pm3_types.specs.Fields.{Fields, is_reference}
use Rattle.pm3_types.specs.Record.{Record}
use Rattle.pm3_types.specs.Numbering.{is_among}
use Rattle.oo7_schema.specs.declared.jobs.Extent.{Extent}
use Rattle.oo7_schema.specs.declared.jobs.Extent.TheVariants.{A, B, C}
use Rattle.oo7_schema.specs.Lookup.{Look, listed_schema, class_in, class_of, value_in, reference, items, set_in}
use Rattle.oo7_schema.specs.Entries.{list_record, entries_in, entries_at, Holds}
use Rattle.oo7_schema.specs.Nodes.{IsOf}
use Rattle.oo7_schema.specs.Flat.{Flat, with_look}
use Rattle.oo7_schema.specs.Members.{params_in, design_root, places, root_part, neighbours, build_date, x_of, y_of}
use Rattle.oo7_schema.specs.Walk.{bases_under, bases, parts_at, walk, depth_of, met_once, met_under, parts_of, all_parts}
use Rattle.oo7_schema.specs.Traversals.{swapped, extent}
use Rattle.oo7_schema.specs.Nearness.{Near, NearAtomic, Bounded}
use Rattle.oo7_schema.specs.DesignLaws.{SwapsLeaveDesigns}
use Rattle.oo7_schema.specs.Designs.{IsBase, IsAssembly, IsConnection, IsAtomic, IsComposite, IsList, IsFlatDesign, composites, atomics}
use Rattle.oo7_schema.proofs.Pieces.{written_out}
use Rattle.oo7_schema.proofs.KeptObjects.{all_among}
use Rattle.oo7_schema.proofs.StaysDesign.{Owned, among_atomics, date_list, atomics_same, stays}
use Rattle.oo7_schema.proofs.Testing.{itself, same_number, test_false, or_first, or_second}
use Rattle.oo7_schema.proofs.Holding.{holds_again}

-- an atomic part, written out
abbrev pub part : ℕ → ℕ → ℕ → ℕ → ℕ → ℕ → List ℕ → Record
part id kind date x y whole tail = record { ty = 6; fields = id ∷ kind ∷ date ∷ x ∷ y ∷ whole ∷ []; tail = tail }

count_in : Option Fields → ℕ
count_in None = 0
count_in (Some map) = map.count

-- the words of an atomic part
pub record PartAt (look : Look) (n : ℕ) : Type 0 where
  pub id : ℕ
  pub kind : ℕ
  pub date : ℕ
  pub x : ℕ
  pub y : ℕ
  pub whole : ℕ
  pub tail : List ℕ
  pub is : look n ≡ Some (part id kind date x y whole tail)

pub part_at : (look : Look) (n : ℕ) → IsOf look 6 n → PartAt look n
unfolding count_in
part_at look n of =
    let map_is : slice_get listed_schema 6 ≡ Some of.fits.map = sym (ap (λ (ty : ℕ). slice_get listed_schema ty) of.of) ∙ of.fits.of in
    let count : 6 ≡ of.fits.map.count = ap count_in map_is in
    let fields : List ℕ = of.object.fields in
    record {
      id = get_or fields 0 0;
      kind = get_or fields 1 0;
      date = get_or fields 2 0;
      x = get_or fields 3 0;
      y = get_or fields 4 0;
      whole = get_or fields 5 0;
      tail = of.object.tail;
      is = of.is ∙ (λ i. Some (record { ty = of.of i; fields = written_out fields 6 (of.fits.fields ∙ sym count) i; tail = of.object.tail }));
    }

swapped_part : (id kind date x y whole : ℕ) (tail : List ℕ)
    → set_in (Word 4) (value_in (Some (part id kind date x y whole tail)) (Word 3)) (set_in (Word 3) (value_in (Some (part id kind date x y whole tail)) (Word 4)) (Some (part id kind date x y whole tail)))
    ≡ Some (part id kind date y x whole tail)
unfolding is_reference
swapped_part id kind date x y whole tail = refl

pub date_of_part : (id kind date x y whole : ℕ) (tail : List ℕ) → value_in (Some (part id kind date x y whole tail)) (Word 2) ≡ date
unfolding is_reference
date_of_part id kind date x y whole tail = refl

pub x_of_part : (id kind date x y whole : ℕ) (tail : List ℕ) → value_in (Some (part id kind date x y whole tail)) (Word 3) ≡ x
unfolding is_reference
x_of_part id kind date x y whole tail = refl

pub y_of_part : (id kind date x y whole : ℕ) (tail : List ℕ) → value_in (Some (part id kind date x y whole tail)) (Word 4) ≡ y
unfolding is_reference
y_of_part id kind date x y whole tail = refl

abbrev swap_of : Option Record → Option Record
swap_of o = set_in (Word 4) (value_in o (Word 3)) (set_in (Word 3) (value_in o (Word 4)) o)

swapped_at : (look : Look) (p : ℕ) → swapped look p p ≡ swap_of (look p)
swapped_at look p =
    ap (λ (b : Bool). cond b (set_in (Word 4) (x_of look p) (cond b (set_in (Word 3) (y_of look p) (look p)) (look p))) (cond b (set_in (Word 3) (y_of look p) (look p)) (look p))) (itself p)

pub swapped_off : (look : Look) (p n : ℕ) → (n == p) ≡ false → swapped look p n ≡ look n
swapped_off look p n apart =
    ap (λ (b : Bool). cond b (set_in (Word 4) (x_of look p) (cond (p == p) (set_in (Word 3) (y_of look p) (look p)) (look p))) (cond b (set_in (Word 3) (y_of look p) (look p)) (look n))) apart

pub record SomeObject (o : Option Record) : Type 0 where
  pub object : Record
  pub is : o ≡ Some object

pub some_object : (o : Option Record) → class_in o ≡ Some 6 → SomeObject o
some_object None is = cc
some_object (Some r) is = record { object = r; is = refl }

module _ (look : Look) (c p t : ℕ) (atomic : IsAtomic look c p) where
  abbrev pub old : PartAt look p
  old = part_at look p atomic.is

  pub swap_here : swapped look p p ≡ Some (part old.id old.kind old.date old.y old.x old.whole old.tail)
  swap_here = swapped_at look p ∙ ap swap_of old.is ∙ swapped_part old.id old.kind old.date old.x old.y old.whole old.tail

  swap_same : (n : ℕ) → (n ≡ t → ⊥) → (class_of look n ≡ Some 6 → ⊥) → swapped look p n ≡ look n
  swap_same n off other =
      swapped_off look p n (test_false n p (λ same. other (ap (class_of look) same ∙ ap class_in old.is)))

  swap_atomic : (n : ℕ) → (n ≡ t → ⊥) → class_of look n ≡ Some 6 → NearAtomic (look n) (swapped look p n)
  swap_atomic n off six = by_test (n == p) refl
    where
      by_test : (b : Bool) → (n == p) ≡ b → NearAtomic (look n) (swapped look p n)
      by_test true is = record {
        old = part old.id old.kind old.date old.x old.y old.whole old.tail;
        new = part old.id old.kind old.date old.y old.x old.whole old.tail;
        was = ap look (same_number n p is) ∙ old.is;
        is = ap (swapped look p) (same_number n p is) ∙ swap_here;
        class = refl;
        long = refl;
        id = refl;
        part = refl;
        tail = refl;
      }
      by_test false is = record {
        old = (some_object (look n) six).object;
        new = (some_object (look n) six).object;
        was = (some_object (look n) six).is;
        is = swapped_off look p n is ∙ (some_object (look n) six).is;
        class = refl;
        long = refl;
        id = refl;
        part = refl;
        tail = refl;
      }

  swap_near : Near t look (swapped look p)
  swap_near = record { same = swap_same; atomic = swap_atomic }

  swap_date : (n : ℕ) → build_date (swapped look p) n ≡ build_date look n
  swap_date n = by_test (n == p) refl
    where
      at_part : build_date (swapped look p) p ≡ build_date look p
      at_part =
          ap (λ (o : Option Record). value_in o (Word 2)) swap_here ∙ date_of_part old.id old.kind old.date old.y old.x old.whole old.tail
          ∙ sym (ap (λ (o : Option Record). value_in o (Word 2)) old.is ∙ date_of_part old.id old.kind old.date old.x old.y old.whole old.tail)

      by_test : (b : Bool) → (n == p) ≡ b → build_date (swapped look p) n ≡ build_date look n
      by_test true is = subst (λ (m : ℕ). build_date (swapped look p) m ≡ build_date look m) (sym (same_number n p is)) at_part
      by_test false is = ap (λ (o : Option Record). value_in o (Word 2)) (swapped_off look p n is)

  swap_x : x_of (swapped look p) p ≡ y_of look p
  swap_x =
      ap (λ (o : Option Record). value_in o (Word 3)) swap_here ∙ x_of_part old.id old.kind old.date old.y old.x old.whole old.tail
      ∙ sym (ap (λ (o : Option Record). value_in o (Word 4)) old.is ∙ y_of_part old.id old.kind old.date old.x old.y old.whole old.tail)

  swap_y : y_of (swapped look p) p ≡ x_of look p
  swap_y =
      ap (λ (o : Option Record). value_in o (Word 4)) swap_here ∙ y_of_part old.id old.kind old.date old.y old.x old.whole old.tail
      ∙ sym (ap (λ (o : Option Record). value_in o (Word 3)) old.is ∙ x_of_part old.id old.kind old.date old.x old.y old.whole old.tail)

  swap_bounds : (d q : ℕ) → IsAtomic look d q → Bounded (swapped look p) q
  swap_bounds d q other = record {
    dated = subst (λ (n : ℕ). 1 ≤ n) (sym (swap_date q)) other.dated;
    early = subst (λ (n : ℕ). n ≤ 2 ^ 64 - 2) (sym (swap_date q)) other.early;
    x = by_x (q == p) refl;
    y = by_y (q == p) refl;
  }
    where
      by_x : (b : Bool) → (q == p) ≡ b → x_of (swapped look p) q < 100000
      by_x true is = subst (λ (m : ℕ). x_of (swapped look p) m < 100000) (sym (same_number q p is)) (subst (λ (n : ℕ). n < 100000) (sym swap_x) atomic.y)
      by_x false is = subst (λ (o : Option Record). value_in o (Word 3) < 100000) (sym (swapped_off look p q is)) other.x

      by_y : (b : Bool) → (q == p) ≡ b → y_of (swapped look p) q < 100000
      by_y true is = subst (λ (m : ℕ). y_of (swapped look p) m < 100000) (sym (same_number q p is)) (subst (λ (n : ℕ). n < 100000) (sym swap_y) atomic.x)
      by_y false is = subst (λ (o : Option Record). value_in o (Word 4) < 100000) (sym (swapped_off look p q is)) other.y

-- all items of lists
pub all_join : (P : ℕ → Type 0) (xs ys : List ℕ) → AllByRecursion P xs → AllByRecursion P ys → AllByRecursion P (xs ++ ys)
all_join P [] ys first second = second
all_join P (x ∷ xs) ys first second = (first.0, all_join P xs ys first.1 second)

pub all_flat : (P Q : ℕ → Type 0) (h : ℕ → List ℕ) → ((x : ℕ) → P x → AllByRecursion Q (h x)) → (xs : List ℕ) → AllByRecursion P xs → AllByRecursion Q (flat_map h xs)
all_flat P Q h each [] all = tt
all_flat P Q h each (x ∷ xs) all = all_join Q (h x) (flat_map h xs) (each x all.0) (all_flat P Q h each xs all.1)

pub all_map : (P Q : ℕ → Type 0) (h : ℕ → ℕ) → ((x : ℕ) → P x → Q (h x)) → (xs : List ℕ) → AllByRecursion P xs → AllByRecursion Q (map h xs)
all_map P Q h each [] all = tt
all_map P Q h each (x ∷ xs) all = (each x all.0, all_map P Q h each xs all.1)

pub all_fold : (P : ℕ → Type 0) (f : List ℕ → ℕ → List ℕ) → ((met : List ℕ) (n : ℕ) → AllByRecursion P met → P n → AllByRecursion P (f met n))
    → (ns met : List ℕ) → AllByRecursion P ns → AllByRecursion P met → AllByRecursion P (fold f met ns)
all_fold P f step [] met all before = before
all_fold P f step (n ∷ ns) met all before = all_fold P f step ns (f met n) all.1 (step met n before all.0)

pub met_inside : (P : ℕ → Type 0) (next : ℕ → List ℕ) → ((n : ℕ) → P n → AllByRecursion P (next n)) → (d : ℕ) (met : List ℕ) (n : ℕ)
    → AllByRecursion P met → P n → AllByRecursion P (met_under next d met n)
met_inside P next closed zero met n before here = before
met_inside P next closed (suc d) met n before here = by_test (is_among met n) (met_inside P next closed d)
  where
    by_test : (b : Bool) → ((met2 : List ℕ) (m : ℕ) → AllByRecursion P met2 → P m → AllByRecursion P (met_under next d met2 m))
        → AllByRecursion P (met_once (met_under next d) (next n) b met n)
    by_test true step = before
    by_test false step = all_fold P (met_under next d) step (next n) (met ++ n ∷ []) (closed n here) (all_join P met (n ∷ []) before (here, tt))

module _ (look : Look) (parts : List ℕ) where
  pub bases_are : (k n : ℕ) → IsAssembly look parts k n → AllByRecursion (IsBase look parts) (bases_under look k n)
  bases_are zero n base = (base, tt)
  bases_are (suc k) n is = all_flat (IsAssembly look parts k) (IsBase look parts) (bases_under look k) (bases_are k) (places look n) is.1

  uses_are : (ns : List ℕ) → AllByRecursion (λ (c : ℕ). (c ≡ 0) ⊎ (is_among parts c ≡ true)) ns → AllByRecursion (λ (c : ℕ). is_among parts c ≡ true) (filter (λ (n : ℕ). not (n == 0)) ns)
  uses_are [] all = tt
  uses_are (n ∷ ns) all = by_test (n == 0) refl all.0 (uses_are ns all.1)
    where
      by_test : (b : Bool) → (n == 0) ≡ b → (n ≡ 0) ⊎ (is_among parts n ≡ true) → AllByRecursion (λ (c : ℕ). is_among parts c ≡ true) (filter (λ (m : ℕ). not (m == 0)) ns)
          → AllByRecursion (λ (c : ℕ). is_among parts c ≡ true) (cond (not b) (n ∷ filter (λ (m : ℕ). not (m == 0)) ns) (filter (λ (m : ℕ). not (m == 0)) ns))
      by_test true is either rest = rest
      by_test false is (inr among) rest = (among, rest)
      by_test false is (inl nil) rest = cc (is, ap (λ (m : ℕ). m == 0) nil)

among_flat : (look : Look) (cs : List ℕ) (c n : ℕ) → is_among cs c ≡ true → is_among (items look c) n ≡ true → is_among (flat_map (items look) cs) n ≡ true
among_flat look [] c n is among = cc
among_flat look (d ∷ cs) c n is among = list_any-append (λ (m : ℕ). n == m) (items look d) (flat_map (items look) cs) ∙ by_test (c == d) refl (among_flat look cs c n)
  where
    by_test : (b : Bool) → (c == d) ≡ b → (is_among cs c ≡ true → is_among (items look c) n ≡ true → is_among (flat_map (items look) cs) n ≡ true)
        → is_among (items look d) n || is_among (flat_map (items look) cs) n ≡ true
    by_test true here later =
        or_first (is_among (items look d) n) (is_among (flat_map (items look) cs) n) (ap (λ (m : ℕ). is_among (items look m) n) (sym (same_number c d here)) ∙ among)
    by_test false here later =
        or_second (is_among (items look d) n) (is_among (flat_map (items look) cs) n) (later (ap (λ (b : Bool). b || is_among cs c) (sym here) ∙ is) among)

module _ (g : Flat) (design : IsFlatDesign g) where
  pub walk_inside : AllByRecursion (λ (c : ℕ). is_among (composites g) c ≡ true) (walk g)
  walk_inside =
      all_flat (IsBase g.look (composites g)) (λ (c : ℕ). is_among (composites g) c ≡ true) (parts_at g.look) (λ b base. uses_are g.look (composites g) (places g.look b) base.uses)
      (bases g) (bases_are g.look (composites g) (depth_of g) (design_root g) design.assemblies)

  composite_of : (c : ℕ) → is_among (composites g) c ≡ true → IsComposite g.look (params_in g).atomics c
  composite_of c among = all_among (IsComposite g.look (params_in g).atomics) (composites g) c design.parts among

  ends_inside : (parts ns : List ℕ) → AllByRecursion (IsConnection g.look parts) ns → AllByRecursion (λ (m : ℕ). is_among parts m ≡ true) (map (λ (k : ℕ). reference g.look k 3) ns)
  ends_inside parts ns all = all_map (IsConnection g.look parts) (λ (m : ℕ). is_among parts m ≡ true) (λ (k : ℕ). reference g.look k 3) (λ k connection. connection.to) ns all

  pub visit_inside : (c : ℕ) → is_among (composites g) c ≡ true → AllByRecursion (λ (p : ℕ). is_among (items g.look c) p ≡ true) (parts_of g.look (params_in g).atomics c)
  visit_inside c among =
      let composite : IsComposite g.look (params_in g).atomics c = composite_of c among in
      met_inside (λ (p : ℕ). is_among (items g.look c) p ≡ true) (neighbours g.look)
      (λ p here. ends_inside (items g.look c) (items g.look p) (all_among (IsAtomic g.look c) (items g.look c) p composite.parts here).connections)
      (params_in g).atomics [] (root_part g.look c) tt composite.root

  into_atomics : (c : ℕ) → is_among (composites g) c ≡ true → (ps : List ℕ) → AllByRecursion (λ (p : ℕ). is_among (items g.look c) p ≡ true) ps
      → AllByRecursion (λ (p : ℕ). is_among (atomics g) p ≡ true) ps
  into_atomics c among [] all = tt
  into_atomics c among (p ∷ ps) all = (among_flat g.look (composites g) c p among all.0, into_atomics c among ps all.1)

  all_parts_inside : AllByRecursion (λ (p : ℕ). is_among (atomics g) p ≡ true) (all_parts g)
  all_parts_inside =
      all_flat (λ (c : ℕ). is_among (composites g) c ≡ true) (λ (p : ℕ). is_among (atomics g) p ≡ true) (parts_of g.look (params_in g).atomics)
      (λ c among. into_atomics c among (parts_of g.look (params_in g).atomics c) (visit_inside c among)) (walk g) walk_inside

  pub extent_inside : (e : Extent) → AllByRecursion (λ (p : ℕ). is_among (atomics g) p ≡ true) (extent g e)
  extent_inside A =
      all_map (λ (c : ℕ). is_among (composites g) c ≡ true) (λ (p : ℕ). is_among (atomics g) p ≡ true) (root_part g.look)
      (λ c among. among_flat g.look (composites g) c (root_part g.look c) among (composite_of c among).root) (walk g) walk_inside
  extent_inside B = all_parts_inside
  extent_inside C =
      all_flat (λ (p : ℕ). is_among (atomics g) p ≡ true) (λ (p : ℕ). is_among (atomics g) p ≡ true) (λ (p : ℕ). replicate 4 p) (λ p among. (among, (among, (among, (among, tt)))))
      (all_parts g) all_parts_inside

-- one swap of a part of a design
pub record SwapStep (g : Flat) (p : ℕ) : Type 0 where
  pub design : IsFlatDesign (with_look g (swapped g.look p))
  pub parts : atomics (with_look g (swapped g.look p)) ≡ atomics g

module _ (g : Flat) (p : ℕ) (design : IsFlatDesign g) (owned : Owned g.look p) (list : IsList g.look (slice_index g.roots 2)) where
  tree_apart : slice_index g.roots 2 ≡ p → ⊥
  tree_apart same =
      let part_class : class_of g.look p ≡ Some 6 = ap class_in owned.is.is.is ∙ ap (λ (k : ℕ). Some k) owned.is.is.of in
      let tree_class : class_of g.look p ≡ Some 12 = ap (class_of g.look) (sym same) ∙ ap class_in list in
      let six : unwrap_or (class_of g.look p) 0 ≡ 6 = ap (λ (c : Option ℕ). unwrap_or c 0) part_class in
      let twelve : unwrap_or (class_of g.look p) 0 ≡ 12 = ap (λ (c : Option ℕ). unwrap_or c 0) tree_class in
      absurd (omega (arith, six, twelve))

  tree_kept : swapped g.look p (slice_index g.roots 2) ≡ g.look (slice_index g.roots 2)
  tree_kept = swapped_off g.look p (slice_index g.roots 2) (test_false (slice_index g.roots 2) p tree_apart)

  list_kept : IsList (swapped g.look p) (slice_index g.roots 2)
  list_kept = tree_kept ∙ list ∙ ap (λ (o : Option Record). Some (list_record (entries_in o))) (sym tree_kept)

  dates_kept : Holds (build_date (swapped g.look p)) (atomics g) (entries_at (swapped g.look p) (slice_index g.roots 2))
  dates_kept =
      subst (λ (o : Option Record). Holds (build_date (swapped g.look p)) (atomics g) (entries_in o)) (sym tree_kept)
      (holds_again (build_date g.look) (build_date (swapped g.look p)) (atomics g) (entries_at g.look (slice_index g.roots 2))
      (λ n among. swap_date g.look owned.owner p (slice_index g.roots 2) owned.is n) design.by_date)

  swap_step_of : SwapStep g p
  swap_step_of = record {
    design = stays g (swapped g.look p) design (swap_near g.look owned.owner p (slice_index g.roots 2) owned.is) list_kept dates_kept
        (swap_bounds g.look owned.owner p (slice_index g.roots 2) owned.is);
    parts = atomics_same g (swapped g.look p) design (swap_near g.look owned.owner p (slice_index g.roots 2) owned.is) list_kept dates_kept
        (swap_bounds g.look owned.owner p (slice_index g.roots 2) owned.is);
  }

pub swap_step : (g : Flat) (p : ℕ) → IsFlatDesign g → is_among (atomics g) p ≡ true → SwapStep g p
swap_step g p design among =
    swap_step_of g p design (among_atomics g.look (params_in g).atomics (composites g) p design.parts among) (date_list g design)

swaps_stay : (g : Flat) (ps : List ℕ) → IsFlatDesign g → AllByRecursion (λ (p : ℕ). is_among (atomics g) p ≡ true) ps → IsFlatDesign (with_look g (fold swapped g.look ps))
swaps_stay g [] design all = design
swaps_stay g (p ∷ ps) design all =
    let step : SwapStep g p = swap_step g p design all.0 in
    swaps_stay (with_look g (swapped g.look p)) ps step.design
    (subst (λ (ns : List ℕ). AllByRecursion (λ (q : ℕ). is_among ns q ≡ true) ps) (sym step.parts) all.1)

pub swaps_leave_designs : SwapsLeaveDesigns
swaps_leave_designs = λ g e design. swaps_stay g (extent g e) design (extent_inside g design e)
