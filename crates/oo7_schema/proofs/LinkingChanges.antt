-- Swaps and turned dates lead nowhere else.
use Rattle.std.proofs.Common.{◌≡◌, ℕ, List, [], ◌∷◌, Bool, true, false, Option, is_some, refl, sym, arith, ap, subst, ◌∙◌}
use Rattle.std.specs.Prelude.{◌==◌, fold, slice_index}
use Rattle.std.specs.List.{AllByRecursion}
use Rattle.pm3_types.specs.Record.{Record}
use Rattle.pm3_types.specs.Numbering.{is_among, names_of}
use Rattle.oo7_schema.specs.declared.jobs.Extent.{Extent}
use Rattle.oo7_schema.specs.Lookup.{Look, listed_schema}
use Rattle.oo7_schema.specs.Entries.{Entry, objects, without_entry, entries_in}
use Rattle.oo7_schema.specs.Flat.{Flat, index, with_look, tree_slots}
use Rattle.oo7_schema.specs.Members.{params_in, build_date}
use Rattle.oo7_schema.specs.Traversals.{swapped, redated, turned, t2, t3, extent}
use Rattle.oo7_schema.specs.Designs.{composites, atomics}
use Rattle.oo7_schema.proofs.Testing.{same_number, apart_numbers, test_false}
use Rattle.oo7_schema.proofs.Holding.{all_with, all_without, counted_among, among_counted, zip_halves}
use Rattle.oo7_schema.proofs.KeptObjects.{all_among}
use Rattle.oo7_schema.proofs.StaysDesign.{Owned, among_atomics}
use Rattle.oo7_schema.proofs.Swapping.{PartAt, part_at, swap_here, swapped_off, swap_step, extent_inside}
use Rattle.oo7_schema.proofs.Turning.{dated, date_off, date_at, date_tree, moved_in, turn_step}
use Rattle.oo7_schema.proofs.Relisting.{slots, slotted, at_slots, off_trees}
use Rattle.oo7_schema.proofs.Deleting.{Linked}
use Rattle.oo7_schema.proofs.Linking.{NilOr, names_of_part, entries_linked, links_again}

-- a part whose words alone changed leads where it led, and nothing but it changed
module _ (list : List ℕ) (look w : Look) (p : ℕ) (there : (n : ℕ) → is_among list n ≡ true → is_some (look n) ≡ true)
    (refers : (m n : ℕ) → is_among list m ≡ true → is_among (names_of listed_schema (look m)) n ≡ true → NilOr list n)
    (old : PartAt look p) (new : PartAt w p) (whole : new.whole ≡ old.whole) (tail : new.tail ≡ old.tail) where
  names_same : names_of listed_schema (w p) ≡ names_of listed_schema (look p)
  names_same =
      ap (names_of listed_schema) new.is ∙ names_of_part new.id new.kind new.date new.x new.y new.whole new.tail ∙ (λ i. whole i ∷ tail i)
      ∙ sym (ap (names_of listed_schema) old.is ∙ names_of_part old.id old.kind old.date old.x old.y old.whole old.tail)

  part_there : (n : ℕ) → ((n == p) ≡ false → w n ≡ look n) → is_among list n ≡ true → is_some (w n) ≡ true
  part_there n off linked = by_test (n == p) refl
    where
      by_test : (b : Bool) → (n == p) ≡ b → is_some (w n) ≡ true
      by_test true is = ap (λ (k : ℕ). is_some (w k)) (same_number n p is) ∙ ap (λ (o : Option Record). is_some o) new.is
      by_test false is = ap (λ (o : Option Record). is_some o) (off is) ∙ there n linked

  part_leads : (m n : ℕ) → ((m == p) ≡ false → w m ≡ look m) → is_among list m ≡ true → is_among (names_of listed_schema (w m)) n ≡ true → NilOr list n
  part_leads m n off linked among = by_test (m == p) refl
    where
      by_test : (b : Bool) → (m == p) ≡ b → NilOr list n
      by_test true is =
          let same : m ≡ p = same_number m p is in
          refers m n linked (ap (λ (k : ℕ). is_among (names_of listed_schema (look k)) n) same ∙ ap (λ (ns : List ℕ). is_among ns n) (sym names_same) ∙ ap (λ (k : ℕ). is_among (names_of listed_schema (w k)) n) (sym same) ∙ among)
      by_test false is = refers m n linked (ap (λ (o : Option Record). is_among (names_of listed_schema o) n) (sym (off is)) ∙ among)

module _ (list : List ℕ) (g : Flat) (p : ℕ) (linked : Linked list g) (among : is_among (atomics g) p ≡ true) where
  owned : Owned g.look p
  owned = among_atomics g.look (params_in g).atomics (composites g) p linked.design.parts among

  -- an atomic part is no tree
  off_tree : (slot : ℕ) → is_among slots slot ≡ true → slice_index g.roots slot ≡ p → ⊥
  off_tree slot is same =
      let off : is_among (tree_slots g.roots) p ≡ false = off_trees g linked.design 6 p owned.is.is refl in
      let tree : is_among (tree_slots g.roots) p ≡ true = ap (is_among (tree_slots g.roots)) (sym same) ∙ (slotted g linked.design).among slot is in
      cc (off, tree)

  abbrev old : PartAt g.look p
  old = part_at g.look p owned.is.is

  swap_linked : Linked list (with_look g (swapped g.look p))
  swap_linked = record {
    design = (swap_step g p linked.design among).design;
    links = links_again list list g (with_look g (swapped g.look p)) (swap_step g p linked.design among).design linked.links refl (λ n is. is)
        (λ n is. part_there list g.look (swapped g.look p) p linked.links.there linked.links.refers old new refl refl n (λ off. swapped_off g.look p n off) is)
        (λ slot is. subst (λ (es : List Entry). AllByRecursion (NilOr list) (objects es)) (sym (ap entries_in (swapped_off g.look p (slice_index g.roots slot) (test_false (slice_index g.roots slot) p (off_tree slot is)))))
        (entries_linked list g linked.design linked.links slot is))
        (λ m n off is names. part_leads list g.look (swapped g.look p) p linked.links.there linked.links.refers old new refl refl m n (λ other. swapped_off g.look p m other) is names);
  }
    where
      new : PartAt (swapped g.look p) p
      new = record { id = old.id; kind = old.kind; date = old.date; x = old.y; y = old.x; whole = old.whole; tail = old.tail; is = swap_here g.look owned.owner p (slice_index g.roots 2) owned.is }

  turn_linked : Linked list (redated g p)
  turn_linked = record {
    design = (turn_step g p linked.design among).design;
    links = links_again list list g (redated g p) (turn_step g p linked.design among).design linked.links refl (λ n is. is) still entries
        (λ m n off is names. part_leads list g.look (dated g.look (slice_index g.roots 2) p (moved_in g p)) p linked.links.there linked.links.refers old new refl refl m n
        (λ other. date_off g.look owned.owner p (slice_index g.roots 2) (moved_in g p) owned.is apart m (no_tree m off) other) is names);
  }
    where
      apart : p ≡ slice_index g.roots 2 → ⊥
      apart same = off_tree 2 refl (sym same)

      no_tree : (m : ℕ) → is_among (tree_slots g.roots) m ≡ false → m ≡ slice_index g.roots 2 → ⊥
      no_tree m off same = let tree : is_among (tree_slots g.roots) m ≡ true = ap (is_among (tree_slots g.roots)) same ∙ (slotted g linked.design).among 2 refl in cc (off, tree)

      new : PartAt (dated g.look (slice_index g.roots 2) p (moved_in g p)) p
      new = record { id = old.id; kind = old.kind; date = turned old.date; x = old.x; y = old.y; whole = old.whole; tail = old.tail; is = date_at g.look owned.owner p (slice_index g.roots 2) (moved_in g p) owned.is apart }

      still : (n : ℕ) → is_among list n ≡ true → is_some (dated g.look (slice_index g.roots 2) p (moved_in g p) n) ≡ true
      still n is = by_test (n == slice_index g.roots 2) refl
        where
          by_test : (b : Bool) → (n == slice_index g.roots 2) ≡ b → is_some (dated g.look (slice_index g.roots 2) p (moved_in g p) n) ≡ true
          by_test true here =
              ap (λ (k : ℕ). is_some (dated g.look (slice_index g.roots 2) p (moved_in g p) k)) (same_number n (slice_index g.roots 2) here)
              ∙ ap (λ (o : Option Record). is_some o) (date_tree g.look owned.owner p (slice_index g.roots 2) (moved_in g p) owned.is apart)
          by_test false other =
              part_there list g.look (dated g.look (slice_index g.roots 2) p (moved_in g p)) p linked.links.there linked.links.refers old new refl refl n
              (λ off. date_off g.look owned.owner p (slice_index g.roots 2) (moved_in g p) owned.is apart n (apart_numbers n (slice_index g.roots 2) other) off) is

      part_linked : NilOr list p
      part_linked =
          all_among (NilOr list) (objects (index g 2)) p (entries_linked list g linked.design linked.links 2 refl)
          (counted_among p (objects (index g 2)) (omega (arith, among_counted p (atomics g) among, linked.design.by_date.same p)))

      moved : AllByRecursion (NilOr list) (objects (moved_in g p))
      moved =
          all_with (NilOr list) (turned (build_date g.look p)) p (without_entry (build_date g.look p) p (index g 2)) part_linked
          (all_without (NilOr list) (build_date g.look p) p (index g 2) (entries_linked list g linked.design linked.links 2 refl))

      other_entries : (slot : ℕ) → is_among slots slot ≡ true → (slot ≡ 2 → ⊥) → AllByRecursion (NilOr list) (objects (index (redated g p) slot))
      other_entries slot is other =
          subst (λ (es : List Entry). AllByRecursion (NilOr list) (objects es))
          (sym (ap entries_in (date_off g.look owned.owner p (slice_index g.roots 2) (moved_in g p) owned.is apart (slice_index g.roots slot)
          ((slotted g linked.design).apart slot 2 is refl other) (test_false (slice_index g.roots slot) p (off_tree slot is)))))
          (entries_linked list g linked.design linked.links slot is)

      entries : (slot : ℕ) → is_among slots slot ≡ true → AllByRecursion (NilOr list) (objects (index (redated g p) slot))
      entries = at_slots (λ (slot : ℕ). AllByRecursion (NilOr list) (objects (index (redated g p) slot)))
          (other_entries 1 refl (apart_numbers 1 2 refl))
          (subst (λ (es : List Entry). AllByRecursion (NilOr list) (objects es))
          (sym (ap entries_in (date_tree g.look owned.owner p (slice_index g.roots 2) (moved_in g p) owned.is apart) ∙ zip_halves (moved_in g p))) moved)
          (other_entries 3 refl (apart_numbers 3 2 refl)) (other_entries 4 refl (apart_numbers 4 2 refl))

pub swaps_linked : (list : List ℕ) (g : Flat) (e : Extent) → Linked list g → Linked list (t2 g e)
swaps_linked list g e linked = through g (extent g e) linked (extent_inside g linked.design e)
  where
    through : (f : Flat) (ps : List ℕ) → Linked list f → AllByRecursion (λ (p : ℕ). is_among (atomics f) p ≡ true) ps → Linked list (with_look f (fold swapped f.look ps))
    through f [] before all = before
    through f (p ∷ ps) before all =
        through (with_look f (swapped f.look p)) ps (swap_linked list f p before all.0)
        (subst (λ (ns : List ℕ). AllByRecursion (λ (q : ℕ). is_among ns q ≡ true) ps) (sym (swap_step f p before.design all.0).parts) all.1)

pub dates_linked : (list : List ℕ) (g : Flat) (e : Extent) → Linked list g → Linked list (t3 g e)
dates_linked list g e linked = through g (extent g e) linked (extent_inside g linked.design e)
  where
    through : (f : Flat) (ps : List ℕ) → Linked list f → AllByRecursion (λ (p : ℕ). is_among (atomics f) p ≡ true) ps → Linked list (fold redated f ps)
    through f [] before all = before
    through f (p ∷ ps) before all =
        through (redated f p) ps (turn_linked list f p before all.0)
        (subst (λ (ns : List ℕ). AllByRecursion (λ (q : ℕ). is_among ns q ≡ true) ps) (sym (turn_step f p before.design all.0).parts) all.1)
