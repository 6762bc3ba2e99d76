-- A design whose four trees get other lists: what its trees then hold, and that all else is as it was.
use Rattle.std.proofs.Common.{◌≡◌, ◌-◌, ◌<◌, ◌≤◌, ℕ, zero, suc, List, [], ◌∷◌, length, Bool, true, false, cond, Option, None, Some, refl, sym, arith, ap, subst, ◌∙◌, get_or, replicate}
use Rattle.std.specs.Prelude.{◌==◌, fold, slice_index}
use Rattle.std.specs.List.{AllByRecursion}
use Rattle.pm3_types.specs.declared.places.Place.TheVariants.{Word}
use Rattle.pm3_types.specs.Record.{Record}
use Rattle.pm3_types.specs.Numbering.{is_among}
use Rattle.oo7_schema.specs.Lookup.{Look, class_in, value_in, word}
use Rattle.oo7_schema.specs.Entries.{Entry, list_record, entries_in, times, Once}
use Rattle.oo7_schema.specs.Nodes.{IsOf}
use Rattle.oo7_schema.specs.Flat.{Flat, index, with_index, tree_slots}
use Rattle.oo7_schema.specs.Designs.{IsList, IsFlatDesign}
use Rattle.oo7_schema.proofs.Testing.{itself, same_number, apart_numbers, test_false, or_first, or_second}
use Rattle.oo7_schema.proofs.KeptObjects.{all_among, class_is}
use Rattle.oo7_schema.proofs.Holding.{in_front, no_less, zip_halves}
use Rattle.oo7_schema.proofs.StaysDesign.{Roots, roots_are}

-- the slots of the trees
abbrev pub slots : List ℕ
slots = 1 ∷ 2 ∷ 3 ∷ 4 ∷ []

-- at two places of a list without repeats are two names
counted_at : (xs : List ℕ) (i : ℕ) → i < length xs → 1 ≤ times (get_or xs i 0) xs
counted_at [] i less = absurd (omega arith)
counted_at (x ∷ xs) zero less = omega (arith, in_front x x xs refl)
counted_at (x ∷ xs) (suc i) less = omega (arith, counted_at xs i (omega arith), no_less (get_or xs i 0) x xs)

once_places : (xs : List ℕ) → Once xs → (i j : ℕ) → i < length xs → j < length xs → get_or xs i 0 ≡ get_or xs j 0 → i ≡ j
once_places [] once i j less low same = absurd (omega arith)
once_places (x ∷ xs) once zero zero less low same = refl
once_places (x ∷ xs) once zero (suc j) less low same =
    let most = once (get_or xs j 0) in
    absurd (omega (arith, most, in_front (get_or xs j 0) x xs same, counted_at xs j (omega arith)))
once_places (x ∷ xs) once (suc i) zero less low same =
    let most = once (get_or xs i 0) in
    absurd (omega (arith, most, in_front (get_or xs i 0) x xs (sym same), counted_at xs i (omega arith)))
once_places (x ∷ xs) once (suc i) (suc j) less low same =
    ap (λ (k : ℕ). suc k) (once_places xs (λ n. omega (arith, once n, no_less n x xs)) i j (omega arith) (omega arith) same)

-- what holds of the four slots
pub at_slots : (P : ℕ → Type 0) → P 1 → P 2 → P 3 → P 4 → (slot : ℕ) → is_among slots slot ≡ true → P slot
at_slots P first second third fourth slot is = all_among P slots slot (first, (second, (third, (fourth, tt)))) is

-- the trees stand in the slots 1 to 4, and no two are one
pub record Slotted (g : Flat) : Type 0 where
  pub among : (slot : ℕ) → is_among slots slot ≡ true → is_among (tree_slots g.roots) (slice_index g.roots slot) ≡ true
  pub apart : (s t : ℕ) → is_among slots s ≡ true → is_among slots t ≡ true → (s ≡ t → ⊥) → slice_index g.roots s ≡ slice_index g.roots t → ⊥

among_four : (a b c d : ℕ) → AllByRecursion (λ (n : ℕ). is_among (a ∷ b ∷ c ∷ d ∷ []) n ≡ true) (a ∷ b ∷ c ∷ d ∷ [])
among_four a b c d = (
  or_first (a == a) (is_among (b ∷ c ∷ d ∷ []) a) (itself a),
  (
    or_second (b == a) (is_among (b ∷ c ∷ d ∷ []) b) (or_first (b == b) (is_among (c ∷ d ∷ []) b) (itself b)),
    (
      or_second (c == a) (is_among (b ∷ c ∷ d ∷ []) c) (or_second (c == b) (is_among (c ∷ d ∷ []) c) (or_first (c == c) (is_among (d ∷ []) c) (itself c))),
      (
        or_second (d == a) (is_among (b ∷ c ∷ d ∷ []) d)
            (or_second (d == b) (is_among (c ∷ d ∷ []) d) (or_second (d == c) (is_among (d ∷ []) d) (or_first (d == d) false (itself d)))),
        tt,
      ),
    ),
  ),
)

pub slotted : (g : Flat) → IsFlatDesign g → Slotted g
slotted g design = record { among = among; apart = apart }
  where
    roots : Roots g.roots
    roots = roots_are g.roots design.slots

    written : AllByRecursion (λ (n : ℕ). is_among (roots.first ∷ roots.second ∷ roots.third ∷ roots.fourth ∷ []) n ≡ true) (roots.first ∷ roots.second ∷ roots.third ∷ roots.fourth ∷ [])
    written = among_four roots.first roots.second roots.third roots.fourth

    among : (slot : ℕ) → is_among slots slot ≡ true → is_among (tree_slots g.roots) (slice_index g.roots slot) ≡ true
    among slot is =
        subst (λ (rs : List ℕ). is_among (tree_slots rs) (slice_index rs slot) ≡ true) (sym roots.are)
        (at_slots (λ (s : ℕ). is_among (roots.first ∷ roots.second ∷ roots.third ∷ roots.fourth ∷ []) (slice_index (roots.head ∷ roots.first ∷ roots.second ∷ roots.third ∷ roots.fourth ∷ replicate 11 0) s) ≡ true)
        written.0 written.1.0 written.1.1.0 written.1.1.1.0 slot is)

    four : length (tree_slots g.roots) ≡ 4
    four = ap (λ (rs : List ℕ). length (tree_slots rs)) roots.are

    places : (slot : ℕ) → is_among slots slot ≡ true → slice_index g.roots slot ≡ get_or (tree_slots g.roots) (slot - 1) 0
    places slot is =
        subst (λ (rs : List ℕ). slice_index rs slot ≡ get_or (tree_slots rs) (slot - 1) 0) (sym roots.are)
        (at_slots (λ (s : ℕ). slice_index (roots.head ∷ roots.first ∷ roots.second ∷ roots.third ∷ roots.fourth ∷ replicate 11 0) s
        ≡ get_or (roots.first ∷ roots.second ∷ roots.third ∷ roots.fourth ∷ []) (s - 1) 0) refl refl refl refl slot is)

    low : (slot : ℕ) → is_among slots slot ≡ true → 1 ≤ slot
    low slot is = at_slots (λ (s : ℕ). 1 ≤ s) (omega arith) (omega arith) (omega arith) (omega arith) slot is

    high : (slot : ℕ) → is_among slots slot ≡ true → slot ≤ 4
    high slot is = at_slots (λ (s : ℕ). s ≤ 4) (omega arith) (omega arith) (omega arith) (omega arith) slot is

    apart : (s t : ℕ) → is_among slots s ≡ true → is_among slots t ≡ true → (s ≡ t → ⊥) → slice_index g.roots s ≡ slice_index g.roots t → ⊥
    apart s t one two other same =
        let place : s - 1 ≡ t - 1 =
        once_places (tree_slots g.roots) design.apart (s - 1) (t - 1) (omega (arith, four, low s one, high s one)) (omega (arith, four, low t two, high t two)) (sym (places s one) ∙ same ∙ places t two) in
        other (omega (arith, place, low s one, low t two))

-- what holds of the trees in the four slots holds of all trees
pub on_trees : (P : ℕ → Type 0) (roots : List ℕ) → Roots roots → ((slot : ℕ) → is_among slots slot ≡ true → P (slice_index roots slot)) → AllByRecursion P (tree_slots roots)
on_trees P roots are each =
    subst (λ (rs : List ℕ). AllByRecursion P (tree_slots rs)) (sym are.are)
    (subst (λ (rs : List ℕ). AllByRecursion P (slice_index rs 1 ∷ slice_index rs 2 ∷ slice_index rs 3 ∷ slice_index rs 4 ∷ [])) are.are (each 1 refl, (each 2 refl, (each 3 refl, (each 4 refl, tt)))))

-- an object has one class
pub one_class : (look : Look) (j k n : ℕ) → IsOf look j n → IsOf look k n → j ≡ k
one_class look j k n one two =
    let both : Some j ≡ Some k = sym (class_is look j n one) ∙ class_is look k n two in
    cc

-- an object of another class than a list's is no tree
pub off_trees : (g : Flat) → IsFlatDesign g → (k n : ℕ) → IsOf g.look k n → (k == 12) ≡ false → is_among (tree_slots g.roots) n ≡ false
off_trees g design k n of other = by_test (is_among (tree_slots g.roots) n) refl
  where
    by_test : (b : Bool) → is_among (tree_slots g.roots) n ≡ b → is_among (tree_slots g.roots) n ≡ false
    by_test true among =
        let list : IsList g.look n = all_among (IsList g.look) (tree_slots g.roots) n design.lists among in
        let both : Some k ≡ Some 12 = sym (class_is g.look k n of) ∙ ap class_in list in
        let same : k ≡ 12 = cc in
        absurd (apart_numbers k 12 other same)
    by_test false among = among

pub nil_off_trees : (g : Flat) → IsFlatDesign g → (n : ℕ) → g.look n ≡ None → is_among (tree_slots g.roots) n ≡ false
nil_off_trees g design n none = by_test (is_among (tree_slots g.roots) n) refl
  where
    by_test : (b : Bool) → is_among (tree_slots g.roots) n ≡ b → is_among (tree_slots g.roots) n ≡ false
    by_test true among =
        let list : IsList g.look n = all_among (IsList g.look) (tree_slots g.roots) n design.lists among in
        cc (none, list)
    by_test false among = among

-- h is g but for its trees, which hold these lists
pub record Relisted (g h : Flat) (lists : ℕ → List Entry) : Type 0 where
  pub roots : h.roots ≡ g.roots
  pub off : (n : ℕ) → is_among (tree_slots g.roots) n ≡ false → h.look n ≡ g.look n
  pub at : (slot : ℕ) → is_among slots slot ≡ true → h.look (slice_index g.roots slot) ≡ Some (list_record (lists slot))

pub relisted_begin : (g : Flat) → AllByRecursion (IsList g.look) (slice_index g.roots 1 ∷ slice_index g.roots 2 ∷ slice_index g.roots 3 ∷ slice_index g.roots 4 ∷ []) → Relisted g g (index g)
relisted_begin g lists = record {
  roots = refl;
  off = λ n off. refl;
  at = at_slots (λ (slot : ℕ). g.look (slice_index g.roots slot) ≡ Some (list_record (index g slot))) lists.0 lists.1.0 lists.1.1.0 lists.1.1.1.0;
}

-- with another list in a slot
abbrev pub relist : (ℕ → List Entry) → ℕ → List Entry → ℕ → List Entry
relist lists slot es s = cond (s == slot) es (lists s)

-- with an object that came into the tree of a slot, or went from it
abbrev pub entered : (ℕ → ℕ → List Entry → List Entry) → Look → ℕ → ℕ → (ℕ → List Entry) → ℕ → ℕ → List Entry
entered change look slot f lists n = relist lists slot (change (word look n f) n (lists slot))

abbrev pub enter : (ℕ → ℕ → List Entry → List Entry) → ℕ → ℕ → Flat → ℕ → Flat
enter change slot f g n = with_index g slot (change (word g.look n f) n (index g slot))

-- and an atomic part, in the two trees of its kind
abbrev pub part_entered : (ℕ → ℕ → List Entry → List Entry) → Look → (ℕ → List Entry) → ℕ → ℕ → List Entry
part_entered change look lists n = entered change look 2 2 (entered change look 1 0 lists n) n

abbrev pub enter_part : (ℕ → ℕ → List Entry → List Entry) → Flat → ℕ → Flat
enter_part change g n = enter change 2 2 (enter change 1 0 g n) n

module _ (g : Flat) (slotted : Slotted g) where
  pub relisted_step : (h : Flat) (lists : ℕ → List Entry) (slot : ℕ) (es : List Entry) → is_among slots slot ≡ true → Relisted g h lists → Relisted g (with_index h slot es) (relist lists slot es)
  relisted_step h lists slot es is state = record {
    roots = state.roots;
    off = λ n off. off_slot n (not_slot n off) ∙ state.off n off;
    at = λ s also. by_test s also (s == slot) refl;
  }
    where
      not_slot : (n : ℕ) → is_among (tree_slots g.roots) n ≡ false → n ≡ slice_index g.roots slot → ⊥
      not_slot n off same =
          let among : is_among (tree_slots g.roots) n ≡ true = ap (λ (m : ℕ). is_among (tree_slots g.roots) m) same ∙ slotted.among slot is in
          cc (off, among)

      off_slot : (n : ℕ) → (n ≡ slice_index g.roots slot → ⊥) → (with_index h slot es).look n ≡ h.look n
      off_slot n apart = ap (λ (b : Bool). cond b (Some (list_record es)) (h.look n)) (ap (λ (rs : List ℕ). n == slice_index rs slot) state.roots ∙ test_false n (slice_index g.roots slot) apart)

      by_test : (s : ℕ) → is_among slots s ≡ true → (b : Bool) → (s == slot) ≡ b → (with_index h slot es).look (slice_index g.roots s) ≡ Some (list_record (cond (s == slot) es (lists s)))
      by_test s also true here =
          ap (λ (b : Bool). cond b (Some (list_record es)) (h.look (slice_index g.roots s)))
          (ap (λ (rs : List ℕ). slice_index g.roots s == slice_index rs slot) state.roots ∙ ap (λ (t : ℕ). slice_index g.roots s == slice_index g.roots t) (sym (same_number s slot here)) ∙ itself (slice_index g.roots s))
          ∙ ap (λ (b : Bool). Some (list_record (cond b es (lists s)))) (sym here)
      by_test s also false here =
          off_slot (slice_index g.roots s) (λ same. slotted.apart s slot also is (λ equal. cc (here, ap (λ (t : ℕ). s == t) (sym equal) ∙ itself s)) same)
          ∙ state.at s also ∙ ap (λ (b : Bool). Some (list_record (cond b es (lists s)))) (sym here)

  pub listed_index : (h : Flat) (lists : ℕ → List Entry) (slot : ℕ) → is_among slots slot ≡ true → Relisted g h lists → index h slot ≡ lists slot
  listed_index h lists slot is state =
      ap (λ (rs : List ℕ). entries_in (h.look (slice_index rs slot))) state.roots ∙ ap entries_in (state.at slot is) ∙ zip_halves (lists slot)

  pub relisted_enter : (change : ℕ → ℕ → List Entry → List Entry) (h : Flat) (lists : ℕ → List Entry) (slot f n : ℕ) → is_among slots slot ≡ true → is_among (tree_slots g.roots) n ≡ false
      → Relisted g h lists → Relisted g (enter change slot f h n) (entered change g.look slot f lists n)
  relisted_enter change h lists slot f n is off state =
      let key : word h.look n f ≡ word g.look n f = ap (λ (o : Option Record). value_in o (Word f)) (state.off n off) in
      let entries : index h slot ≡ lists slot = listed_index h lists slot is state in
      let same : change (word h.look n f) n (index h slot) ≡ change (word g.look n f) n (lists slot) = λ i. change (key i) n (entries i) in
      subst (λ (es : List Entry). Relisted g (enter change slot f h n) (relist lists slot es)) same (relisted_step h lists slot (change (word h.look n f) n (index h slot)) is state)

  pub relisted_parts : (change : ℕ → ℕ → List Entry → List Entry) (ps : List ℕ) (h : Flat) (lists : ℕ → List Entry) → AllByRecursion (λ (p : ℕ). is_among (tree_slots g.roots) p ≡ false) ps
      → Relisted g h lists → Relisted g (fold (enter_part change) h ps) (fold (part_entered change g.look) lists ps)
  relisted_parts change [] h lists off state = state
  relisted_parts change (p ∷ ps) h lists off state =
      relisted_parts change ps (enter_part change h p) (part_entered change g.look lists p) off.1
      (relisted_enter change (enter change 1 0 h p) (entered change g.look 1 0 lists p) 2 2 p refl off.0 (relisted_enter change h lists 1 0 p refl off.0 state))

  pub relisted_lists : (h : Flat) (lists : ℕ → List Entry) → Relisted g h lists → (slot : ℕ) → is_among slots slot ≡ true → IsList h.look (slice_index g.roots slot)
  relisted_lists h lists state slot is =
      state.at slot is ∙ ap (λ (es : List Entry). Some (list_record es)) (sym (ap entries_in (state.at slot is) ∙ zip_halves (lists slot)))

-- what a slot's list becomes where parts come or go
pub slot_follows : (change : ℕ → ℕ → List Entry → List Entry) (look : Look) (slot : ℕ) (step : List Entry → ℕ → List Entry)
    → ((lists : ℕ → List Entry) (p : ℕ) → part_entered change look lists p slot ≡ step (lists slot) p)
    → (ps : List ℕ) (lists : ℕ → List Entry) → fold (part_entered change look) lists ps slot ≡ fold step (lists slot) ps
slot_follows change look slot step each [] lists = refl
slot_follows change look slot step each (p ∷ ps) lists =
    slot_follows change look slot step each ps (part_entered change look lists p) ∙ ap (λ (es : List Entry). fold step es ps) (each lists p)

stays_put : (es : List Entry) (ps : List ℕ) → fold (λ (fs : List Entry) (p : ℕ). fs) es ps ≡ es
stays_put es [] = refl
stays_put es (p ∷ ps) = stays_put es ps

module _ (change : ℕ → ℕ → List Entry → List Entry) (look : Look) (ps : List ℕ) (lists : ℕ → List Entry) where
  pub first_list : fold (part_entered change look) lists ps 1 ≡ fold (λ (es : List Entry) (p : ℕ). change (word look p 0) p es) (lists 1) ps
  first_list = slot_follows change look 1 (λ (es : List Entry) (p : ℕ). change (word look p 0) p es) (λ ls p. refl) ps lists

  pub second_list : fold (part_entered change look) lists ps 2 ≡ fold (λ (es : List Entry) (p : ℕ). change (word look p 2) p es) (lists 2) ps
  second_list = slot_follows change look 2 (λ (es : List Entry) (p : ℕ). change (word look p 2) p es) (λ ls p. refl) ps lists

  pub third_list : fold (part_entered change look) lists ps 3 ≡ lists 3
  third_list = slot_follows change look 3 (λ (es : List Entry) (p : ℕ). es) (λ ls p. refl) ps lists ∙ stays_put (lists 3) ps

  pub fourth_list : fold (part_entered change look) lists ps 4 ≡ lists 4
  fourth_list = slot_follows change look 4 (λ (es : List Entry) (p : ℕ). es) (λ ls p. refl) ps lists ∙ stays_put (lists 4) ps
