-- Dates turned at the parts that visits meet leave a design.
use Rattle.std.proofs.Common.{◌≡◌, ◌-◌, ◌<◌, ◌≤◌, ◌^◌, ℕ, List, [], ◌∷◌, Bool, true, false, cond, Option, Some, refl, sym, arith, ap, subst, ◌∙◌}
use Rattle.std.specs.Prelude.{◌==◌, fold, slice_index, unwrap_or}
use Rattle.std.specs.List.{AllByRecursion}
use Rattle.pm3_types.specs.declared.places.Place.TheVariants.{Word}
use Rattle.pm3_types.specs.Fields.{is_reference}
use Rattle.pm3_types.specs.Record.{Record}
use Rattle.pm3_types.specs.Numbering.{is_among}
use Rattle.oo7_schema.specs.Lookup.{Look, class_in, class_of, value_in, set_in, set, put}
use Rattle.oo7_schema.specs.Entries.{Entry, objects, with_entry, without_entry, has_entry, list_record, entries_in, entries_at, times, Holds}
use Rattle.oo7_schema.specs.Flat.{Flat, index}
use Rattle.oo7_schema.specs.Members.{params_in, build_date, x_of, y_of}
use Rattle.oo7_schema.specs.Traversals.{turned, redated, extent}
use Rattle.oo7_schema.specs.Nearness.{Near, NearAtomic, Bounded}
use Rattle.oo7_schema.specs.DesignLaws.{DatesLeaveDesigns}
use Rattle.oo7_schema.specs.Designs.{IsAtomic, IsList, IsFlatDesign, composites, atomics}
use Rattle.oo7_schema.proofs.Coming.{entries_come, entries_go, dates_turn}
use Rattle.oo7_schema.proofs.StaysDesign.{Owned, among_atomics, date_list, atomics_same, stays}
use Rattle.oo7_schema.proofs.Swapping.{part, PartAt, part_at, some_object, extent_inside, x_of_part, y_of_part, date_of_part}
use Rattle.oo7_schema.proofs.Testing.{itself, same_number, test_false}
use Rattle.oo7_schema.proofs.Holding.{in_front, counted_among, among_counted, keys_again, zip_halves, has_by, keys_without, keys_with}

redated_part : (id kind date x y whole : ℕ) (tail : List ℕ)
    → set_in (Word 2) (turned (value_in (Some (part id kind date x y whole tail)) (Word 2))) (Some (part id kind date x y whole tail)) ≡ Some (part id kind (turned date) x y whole tail)
unfolding is_reference
redated_part id kind date x y whole tail = refl

-- the objects once a part's date is turned
abbrev pub dated : Look → ℕ → ℕ → List Entry → Look
dated look t p es = put (set look p (Word 2) (turned (build_date look p))) t (list_record es)

module _ (look : Look) (c p t : ℕ) (es : List Entry) (atomic : IsAtomic look c p) (apart : p ≡ t → ⊥) where
  abbrev pub old : PartAt look p
  old = part_at look p atomic.is

  pub date_off : (n : ℕ) → (n ≡ t → ⊥) → (n == p) ≡ false → dated look t p es n ≡ look n
  date_off n off other =
      ap (λ (b : Bool). cond b (Some (list_record es)) (set look p (Word 2) (turned (build_date look p)) n)) (test_false n t off)
      ∙ ap (λ (b : Bool). cond b (set_in (Word 2) (turned (build_date look p)) (look p)) (look n)) other

  pub date_at : dated look t p es p ≡ Some (part old.id old.kind (turned old.date) old.x old.y old.whole old.tail)
  date_at =
      ap (λ (b : Bool). cond b (Some (list_record es)) (set look p (Word 2) (turned (build_date look p)) p)) (test_false p t apart)
      ∙ ap (λ (b : Bool). cond b (set_in (Word 2) (turned (build_date look p)) (look p)) (look p)) (itself p)
      ∙ ap (λ (o : Option Record). set_in (Word 2) (turned (value_in o (Word 2))) o) old.is ∙ redated_part old.id old.kind old.date old.x old.y old.whole old.tail

  pub date_tree : dated look t p es t ≡ Some (list_record es)
  date_tree = ap (λ (b : Bool). cond b (Some (list_record es)) (set look p (Word 2) (turned (build_date look p)) t)) (itself t)

  date_near : Near t look (dated look t p es)
  date_near = record {
    same = λ n off other. date_off n off (test_false n p (λ same. other (ap (class_of look) same ∙ ap class_in old.is)));
    atomic = λ n off six. by_test n off six (n == p) refl;
  }
    where
      by_test : (n : ℕ) → (n ≡ t → ⊥) → class_of look n ≡ Some 6 → (b : Bool) → (n == p) ≡ b → NearAtomic (look n) (dated look t p es n)
      by_test n off six true is = record {
        old = part old.id old.kind old.date old.x old.y old.whole old.tail;
        new = part old.id old.kind (turned old.date) old.x old.y old.whole old.tail;
        was = ap look (same_number n p is) ∙ old.is;
        is = ap (dated look t p es) (same_number n p is) ∙ date_at;
        class = refl;
        long = refl;
        id = refl;
        part = refl;
        tail = refl;
      }
      by_test n off six false is = record {
        old = (some_object (look n) six).object;
        new = (some_object (look n) six).object;
        was = (some_object (look n) six).is;
        is = date_off n off is ∙ (some_object (look n) six).is;
        class = refl;
        long = refl;
        id = refl;
        part = refl;
        tail = refl;
      }

  turned_date : build_date (dated look t p es) p ≡ turned (build_date look p)
  turned_date =
      ap (λ (o : Option Record). value_in o (Word 2)) date_at ∙ date_of_part old.id old.kind (turned old.date) old.x old.y old.whole old.tail
      ∙ ap turned (sym (ap (λ (o : Option Record). value_in o (Word 2)) old.is ∙ date_of_part old.id old.kind old.date old.x old.y old.whole old.tail))

  kept_x : x_of (dated look t p es) p ≡ x_of look p
  kept_x =
      ap (λ (o : Option Record). value_in o (Word 3)) date_at ∙ x_of_part old.id old.kind (turned old.date) old.x old.y old.whole old.tail
      ∙ sym (ap (λ (o : Option Record). value_in o (Word 3)) old.is ∙ x_of_part old.id old.kind old.date old.x old.y old.whole old.tail)

  kept_y : y_of (dated look t p es) p ≡ y_of look p
  kept_y =
      ap (λ (o : Option Record). value_in o (Word 4)) date_at ∙ y_of_part old.id old.kind (turned old.date) old.x old.y old.whole old.tail
      ∙ sym (ap (λ (o : Option Record). value_in o (Word 4)) old.is ∙ y_of_part old.id old.kind old.date old.x old.y old.whole old.tail)

  date_bounds : ((d q : ℕ) → IsAtomic look d q → q ≡ t → ⊥) → (d q : ℕ) → IsAtomic look d q → Bounded (dated look t p es) q
  date_bounds off d q other = by_test (q == p) refl
    where
      here : Bounded (dated look t p es) p
      here = record {
        dated = subst (λ (n : ℕ). 1 ≤ n) (sym turned_date) (dates_turn (build_date look p) atomic.dated atomic.early).some;
        early = subst (λ (n : ℕ). n ≤ 2 ^ 64 - 2) (sym turned_date) (dates_turn (build_date look p) atomic.dated atomic.early).most;
        x = subst (λ (n : ℕ). n < 100000) (sym kept_x) atomic.x;
        y = subst (λ (n : ℕ). n < 100000) (sym kept_y) atomic.y;
      }

      by_test : (b : Bool) → (q == p) ≡ b → Bounded (dated look t p es) q
      by_test true is = subst (λ (m : ℕ). Bounded (dated look t p es) m) (sym (same_number q p is)) here
      by_test false is = record {
        dated = subst (λ (o : Option Record). 1 ≤ value_in o (Word 2)) (sym (date_off q (off d q other) is)) other.dated;
        early = subst (λ (o : Option Record). value_in o (Word 2) ≤ 2 ^ 64 - 2) (sym (date_off q (off d q other) is)) other.early;
        x = subst (λ (o : Option Record). value_in o (Word 3) < 100000) (sym (date_off q (off d q other) is)) other.x;
        y = subst (λ (o : Option Record). value_in o (Word 4) < 100000) (sym (date_off q (off d q other) is)) other.y;
      }

-- the entries by date once a part has moved
abbrev pub moved_in : Flat → ℕ → List Entry
moved_in g p = with_entry (turned (build_date g.look p)) p (without_entry (build_date g.look p) p (index g 2))

pub record TurnStep (g : Flat) (p : ℕ) : Type 0 where
  pub design : IsFlatDesign (redated g p)
  pub parts : atomics (redated g p) ≡ atomics g

module _ (g : Flat) (p : ℕ) (design : IsFlatDesign g) (among : is_among (atomics g) p ≡ true) where
  owned : Owned g.look p
  owned = among_atomics g.look (params_in g).atomics (composites g) p design.parts among

  -- an atomic part is no tree
  no_tree : (d q : ℕ) → IsAtomic g.look d q → q ≡ slice_index g.roots 2 → ⊥
  no_tree d q atomic same =
      let part_class : class_of g.look q ≡ Some 6 = ap class_in atomic.is.is ∙ ap (λ (k : ℕ). Some k) atomic.is.of in
      let tree_class : class_of g.look q ≡ Some 12 = ap (class_of g.look) same ∙ ap class_in (date_list g design) in
      let six : unwrap_or (class_of g.look q) 0 ≡ 6 = ap (λ (c : Option ℕ). unwrap_or c 0) part_class in
      let twelve : unwrap_or (class_of g.look q) 0 ≡ 12 = ap (λ (c : Option ℕ). unwrap_or c 0) tree_class in
      absurd (omega (arith, six, twelve))

  apart : p ≡ slice_index g.roots 2 → ⊥
  apart = no_tree owned.owner p owned.is

  present : has_entry (build_date g.look p) p (index g 2) ≡ true
  present = has_by (build_date g.look) p (index g 2) design.by_date.keys (omega (arith, among_counted p (atomics g) among, design.by_date.same p))

  gone : times p (objects (without_entry (build_date g.look p) p (index g 2))) ≡ 0
  gone =
      let less = (entries_go (build_date g.look p) p (index g 2)).counted present p in
      omega (arith, less, in_front p p [] refl, design.by_date.same p, design.once_atomics p)

  other_dates : (n : ℕ) → 1 ≤ times n (objects (without_entry (build_date g.look p) p (index g 2)))
      → build_date (dated g.look (slice_index g.roots 2) p (moved_in g p)) n ≡ build_date g.look n
  other_dates n some =
      let less = (entries_go (build_date g.look p) p (index g 2)).counted present n in
      let there : is_among (atomics g) n ≡ true = counted_among n (atomics g) (omega (arith, some, less, design.by_date.same n)) in
      let whose : Owned g.look n = among_atomics g.look (params_in g).atomics (composites g) n design.parts there in
      let other : n ≡ p → ⊥ = λ same. no_more same in
      ap (λ (o : Option Record). value_in o (Word 2)) (date_off g.look owned.owner p (slice_index g.roots 2) (moved_in g p) owned.is apart n (no_tree whose.owner n whose.is) (test_false n p other))
    where
      no_more : n ≡ p → ⊥
      no_more same =
          let none : times n (objects (without_entry (build_date g.look p) p (index g 2))) ≡ 0 =
          ap (λ (m : ℕ). times m (objects (without_entry (build_date g.look p) p (index g 2)))) same ∙ gone in
          absurd (omega (arith, some, none))

  moved_dates : Holds (build_date (dated g.look (slice_index g.roots 2) p (moved_in g p))) (atomics g) (moved_in g p)
  moved_dates = record {
    same = λ n. omega (
      arith,
      (entries_come (turned (build_date g.look p)) p (without_entry (build_date g.look p) p (index g 2))).counted n,
      (entries_go (build_date g.look p) p (index g 2)).counted present n,
      design.by_date.same n,
    );
    keys = keys_with (build_date (dated g.look (slice_index g.roots 2) p (moved_in g p))) (turned (build_date g.look p)) p (without_entry (build_date g.look p) p (index g 2))
        (sym (turned_date g.look owned.owner p (slice_index g.roots 2) (moved_in g p) owned.is apart))
        (keys_again (build_date g.look) (build_date (dated g.look (slice_index g.roots 2) p (moved_in g p))) (without_entry (build_date g.look p) p (index g 2)) other_dates
        (keys_without (build_date g.look) (build_date g.look p) p (index g 2) design.by_date.keys));
    rising = (entries_come (turned (build_date g.look p)) p (without_entry (build_date g.look p) p (index g 2))).rising
        ((entries_go (build_date g.look p) p (index g 2)).rising design.by_date.rising);
  }

  tree_moved : dated g.look (slice_index g.roots 2) p (moved_in g p) (slice_index g.roots 2) ≡ Some (list_record (moved_in g p))
  tree_moved = date_tree g.look owned.owner p (slice_index g.roots 2) (moved_in g p) owned.is apart

  entries_moved : entries_at (dated g.look (slice_index g.roots 2) p (moved_in g p)) (slice_index g.roots 2) ≡ (moved_in g p)
  entries_moved = ap entries_in tree_moved ∙ zip_halves (moved_in g p)

  list_moved : IsList (dated g.look (slice_index g.roots 2) p (moved_in g p)) (slice_index g.roots 2)
  list_moved = tree_moved ∙ ap (λ (es : List Entry). Some (list_record es)) (sym entries_moved)

  dates_moved : Holds (build_date (dated g.look (slice_index g.roots 2) p (moved_in g p))) (atomics g) (entries_at (dated g.look (slice_index g.roots 2) p (moved_in g p)) (slice_index g.roots 2))
  dates_moved = subst (λ (es : List Entry). Holds (build_date (dated g.look (slice_index g.roots 2) p (moved_in g p))) (atomics g) es) (sym entries_moved) moved_dates

  near_moved : Near (slice_index g.roots 2) g.look (dated g.look (slice_index g.roots 2) p (moved_in g p))
  near_moved = date_near g.look owned.owner p (slice_index g.roots 2) (moved_in g p) owned.is apart

  bounds_moved : (c q : ℕ) → IsAtomic g.look c q → Bounded (dated g.look (slice_index g.roots 2) p (moved_in g p)) q
  bounds_moved = date_bounds g.look owned.owner p (slice_index g.roots 2) (moved_in g p) owned.is apart no_tree

  pub turn_step : TurnStep g p
  turn_step = record {
    design = stays g (dated g.look (slice_index g.roots 2) p (moved_in g p)) design near_moved list_moved dates_moved bounds_moved;
    parts = atomics_same g (dated g.look (slice_index g.roots 2) p (moved_in g p)) design near_moved list_moved dates_moved bounds_moved;
  }

turns_stay : (g : Flat) (ps : List ℕ) → IsFlatDesign g → AllByRecursion (λ (p : ℕ). is_among (atomics g) p ≡ true) ps → IsFlatDesign (fold redated g ps)
turns_stay g [] design all = design
turns_stay g (p ∷ ps) design all =
    let step : TurnStep g p = turn_step g p design all.0 in
    turns_stay (redated g p) ps step.design (subst (λ (ns : List ℕ). AllByRecursion (λ (q : ℕ). is_among ns q ≡ true) ps) (sym step.parts) all.1)

pub dates_leave_designs : DatesLeaveDesigns
dates_leave_designs = λ g e design. turns_stay g (extent g e) design (extent_inside g design e)
