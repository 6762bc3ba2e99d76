-- What a design's roots lead to, and what steps of jobs keep of it.
use Rattle.std.proofs.Common.{◌≡◌, ◌+◌, ◌%◌, ◌^◌, ◌<◌, ℕ, suc, List, [], ◌∷◌, ◌++◌, length, Bool, true, false, cond, Option, None, Some, is_some, ◌⊎◌, inl, inr, refl, sym, arith, ap, subst, ◌∙◌, map, replicate}
use Rattle.std.specs.Prelude.{◌==◌, flat_map, slice_index, option_to_list}
use Rattle.std.specs.List.{AllByRecursion, list_all}
use Rattle.std.proofs.Math.Nat.{zero-div}
use Rattle.pm3_types.specs.declared.type_map.Tail.TheVariants.{Refs}
use Rattle.pm3_types.specs.Fields.{is_reference}
use Rattle.pm3_types.specs.Record.{Record}
use Rattle.pm3_types.specs.Numbering.{is_among, names_in_fields, names_of}
use Rattle.oo7_schema.specs.Schema.{class}
use Rattle.oo7_schema.specs.Lookup.{Look, listed_schema}
use Rattle.oo7_schema.specs.Entries.{Entry, objects, list_record}
use Rattle.oo7_schema.specs.Flat.{Flat, index, tree_slots, reading_of, numbered}
use Rattle.oo7_schema.specs.Alike.{met, IsClosed}
use Rattle.oo7_schema.specs.Designs.{IsList, IsFlatDesign}
use Rattle.oo7_schema.proofs.Testing.{itself, same_number, and_first, and_second, or_cases, or_first, or_second}
use Rattle.oo7_schema.proofs.KeptObjects.{all_among}
use Rattle.oo7_schema.proofs.OwnReading.{AreThere, met_there}
use Rattle.oo7_schema.proofs.StaysDesign.{Roots, roots_are}
use Rattle.oo7_schema.proofs.Swapping.{part}
use Rattle.oo7_schema.proofs.Relisting.{slots, slotted, at_slots, on_trees}
use Rattle.oo7_schema.proofs.Pieces.{among_get}
use Rattle.oo7_schema.proofs.Rebasing.{base}
use Rattle.oo7_schema.proofs.Setting.{head}
use Rattle.oo7_schema.proofs.Closing.{Links}

-- the names in objects that are written out
no_reference : (f : ℕ) → is_reference (class 0 0 Refs) f ≡ false
unfolding is_reference
no_reference f = ap (λ (n : ℕ). n % 2 == 1) (zero-div (2 ^ f))

no_names : (f : ℕ) (keys : List ℕ) → names_in_fields (class 0 0 Refs) f keys ≡ []
no_names f [] = refl
no_names f (k ∷ keys) =
    ap (λ (b : Bool). cond b (k ∷ names_in_fields (class 0 0 Refs) (f + 1) keys) (names_in_fields (class 0 0 Refs) (f + 1) keys)) (no_reference f) ∙ no_names (f + 1) keys

pub names_of_list : (es : List Entry) → names_of listed_schema (Some (list_record es)) ≡ objects es
names_of_list es = ap (λ (ns : List ℕ). ns ++ objects es) (no_names 0 (map (λ (e : Entry). e.0) es))

pub names_of_part : (id kind date x y whole : ℕ) (tail : List ℕ) → names_of listed_schema (Some (part id kind date x y whole tail)) ≡ whole ∷ tail
unfolding is_reference
names_of_part id kind date x y whole tail = refl

pub names_of_head : (id size atomic composite assemblies manual root : ℕ) → names_of listed_schema (Some (head id size atomic composite assemblies manual root)) ≡ manual ∷ root ∷ []
unfolding is_reference
names_of_head id size atomic composite assemblies manual root = refl

pub names_of_base : (id date one two three : ℕ) → names_of listed_schema (Some (base id date one two three)) ≡ one ∷ two ∷ three ∷ []
unfolding is_reference
names_of_base id date one two three = refl

-- nil, or in the list
abbrev pub NilOr : List ℕ → ℕ → Type 0
NilOr list n = (n ≡ 0) ⊎ (is_among list n ≡ true)

pub all_from : (P : ℕ → Type 0) (ns : List ℕ) → ((n : ℕ) → is_among ns n ≡ true → P n) → AllByRecursion P ns
all_from P [] each = tt
all_from P (n ∷ ns) each = (each n (or_first (n == n) (is_among ns n) (itself n)), all_from P ns (λ m among. each m (or_second (m == n) (is_among ns m) among)))

-- what holds of the names of an object's places
pub names_all : (P : ℕ → Type 0) (o : Option Record) (ns : List ℕ) → names_of listed_schema o ≡ ns → AllByRecursion P ns → (n : ℕ) → is_among (names_of listed_schema o) n ≡ true → P n
names_all P o ns is all n among = all_among P ns n all (ap (λ (ms : List ℕ). is_among ms n) (sym is) ∙ among)

all_there : (look : Look) (ns : List ℕ) → AreThere look ns → (n : ℕ) → is_among ns n ≡ true → is_some (look n) ≡ true
all_there look [] there n among = cc
all_there look (m ∷ ns) there n among = elim (or_cases (n == m) (is_among ns n) among) [
  | inl here ↦ ap (λ (k : ℕ). is_some (look k)) (same_number n m here) ∙ and_first (is_some (look m)) (list_all (λ (x : ℕ). is_some (look x)) ns) there
  | inr later ↦ all_there look ns (and_second (is_some (look m)) (list_all (λ (x : ℕ). is_some (look x)) ns) there) n later
]

-- a graph of which so many looks find all that is reached leads to what is met alone
pub links_of_closed : (g : Flat) (count : ℕ) → IsClosed g count → Links (met g count) g
links_of_closed g count closed = record {
  there = all_there g.look (met g count) (met_there g.look count g.roots);
  roots = closed.roots;
  refers = closed.refers;
}

listed_long : (look : Look) (numbers ns : List ℕ) → AreThere look ns → length (map (numbered numbers) (flat_map (λ (n : ℕ). option_to_list (look n)) ns)) ≡ length ns
listed_long look numbers [] there = refl
listed_long look numbers (n ∷ ns) there =
    one (look n) (and_first (is_some (look n)) (list_all (λ (x : ℕ). is_some (look x)) ns) there)
    (listed_long look numbers ns (and_second (is_some (look n)) (list_all (λ (x : ℕ). is_some (look x)) ns) there))
  where
    one : (o : Option Record) → is_some o ≡ true → length (map (numbered numbers) (flat_map (λ (m : ℕ). option_to_list (look m)) ns)) ≡ length ns
        → length (map (numbered numbers) (option_to_list o ++ flat_map (λ (m : ℕ). option_to_list (look m)) ns)) ≡ suc (length ns)
    one None some rest = cc
    one (Some r) some rest = ap suc rest

-- a reading has as many objects as names are met
pub objects_long : (g : Flat) (count : ℕ) → length (reading_of g count).objects ≡ length (met g count)
objects_long g count = listed_long g.look (met g count) (met g count) (met_there g.look count g.roots)

module _ (list : List ℕ) (g : Flat) (design : IsFlatDesign g) (links : Links list g) where
  tree_rooted : (slot : ℕ) → is_among slots slot ≡ true → is_among g.roots (slice_index g.roots slot) ≡ true
  tree_rooted slot is =
      let roots : Roots g.roots = roots_are g.roots design.slots in
      subst (λ (rs : List ℕ). is_among rs (slice_index rs slot) ≡ true) (sym roots.are)
      (at_slots (λ (s : ℕ). is_among (roots.head ∷ roots.first ∷ roots.second ∷ roots.third ∷ roots.fourth ∷ replicate 11 0) (slice_index (roots.head ∷ roots.first ∷ roots.second ∷ roots.third ∷ roots.fourth ∷ replicate 11 0) s) ≡ true)
      (at roots 1 (omega arith)) (at roots 2 (omega arith)) (at roots 3 (omega arith)) (at roots 4 (omega arith)) slot is)
    where
      at : (roots : Roots g.roots) (s : ℕ) → s < 16
          → is_among (roots.head ∷ roots.first ∷ roots.second ∷ roots.third ∷ roots.fourth ∷ replicate 11 0) (slice_index (roots.head ∷ roots.first ∷ roots.second ∷ roots.third ∷ roots.fourth ∷ replicate 11 0) s) ≡ true
      at roots s low = among_get (roots.head ∷ roots.first ∷ roots.second ∷ roots.third ∷ roots.fourth ∷ replicate 11 0) s low

  list_at : (slot : ℕ) → is_among slots slot ≡ true → IsList g.look (slice_index g.roots slot)
  list_at slot is = all_among (IsList g.look) (tree_slots g.roots) (slice_index g.roots slot) design.lists ((slotted g design).among slot is)

  tree_linked : (slot : ℕ) → is_among slots slot ≡ true → is_among list (slice_index g.roots slot) ≡ true
  tree_linked slot is = some_list (links.roots (slice_index g.roots slot) (tree_rooted slot is))
    where
      some_list : (slice_index g.roots slot ≡ 0) ⊎ (is_among list (slice_index g.roots slot) ≡ true) → is_among list (slice_index g.roots slot) ≡ true
      some_list (inl zeroth) = let none : g.look (slice_index g.roots slot) ≡ None = ap g.look zeroth ∙ design.nil in cc (none, list_at slot is)
      some_list (inr among) = among

  -- the objects of a tree's entries
  pub entries_linked : (slot : ℕ) → is_among slots slot ≡ true → AllByRecursion (NilOr list) (objects (index g slot))
  entries_linked slot is =
      all_from (NilOr list) (objects (index g slot))
      (λ n among. links.refers (slice_index g.roots slot) n (tree_linked slot is)
      (ap (λ (o : Option Record). is_among (names_of listed_schema o) n) (list_at slot is) ∙ ap (λ (ns : List ℕ). is_among ns n) (names_of_list (index g slot)) ∙ among))

-- a step that leaves a design leaves links where its trees' entries and all else lead to the list
pub links_again : (list more : List ℕ) (g h : Flat) → IsFlatDesign h → Links list g → h.roots ≡ g.roots → ((n : ℕ) → is_among list n ≡ true → is_among more n ≡ true)
    → ((n : ℕ) → is_among more n ≡ true → is_some (h.look n) ≡ true)
    → ((slot : ℕ) → is_among slots slot ≡ true → AllByRecursion (NilOr more) (objects (index h slot)))
    → ((m n : ℕ) → is_among (tree_slots h.roots) m ≡ false → is_among more m ≡ true → is_among (names_of listed_schema (h.look m)) n ≡ true → NilOr more n)
    → Links more h
links_again list more g h design links roots wider there entries others = record {
  there = there;
  roots = λ n among. rooted n (links.roots n (ap (λ (rs : List ℕ). is_among rs n) (sym roots) ∙ among));
  refers = λ m n in_list among. by_test m n in_list among (is_among (tree_slots h.roots) m) refl;
}
  where
    rooted : (n : ℕ) → NilOr list n → NilOr more n
    rooted n (inl zeroth) = inl zeroth
    rooted n (inr among) = inr (wider n among)

    from_tree : (slot : ℕ) → is_among slots slot ≡ true → (n : ℕ) → is_among (names_of listed_schema (h.look (slice_index h.roots slot))) n ≡ true → NilOr more n
    from_tree slot is n among =
        let list : IsList h.look (slice_index h.roots slot) = all_among (IsList h.look) (tree_slots h.roots) (slice_index h.roots slot) design.lists ((slotted h design).among slot is) in
        names_all (NilOr more) (h.look (slice_index h.roots slot)) (objects (index h slot)) (ap (names_of listed_schema) list ∙ names_of_list (index h slot)) (entries slot is) n among

    by_test : (m n : ℕ) → is_among more m ≡ true → is_among (names_of listed_schema (h.look m)) n ≡ true → (b : Bool) → is_among (tree_slots h.roots) m ≡ b → NilOr more n
    by_test m n in_list among false off = others m n off in_list among
    by_test m n in_list among true tree =
        all_among (λ (t : ℕ). (k : ℕ) → is_among (names_of listed_schema (h.look t)) k ≡ true → NilOr more k) (tree_slots h.roots) m
        (on_trees (λ (t : ℕ). (k : ℕ) → is_among (names_of listed_schema (h.look t)) k ≡ true → NilOr more k) h.roots (roots_are h.roots design.slots) from_tree) tree n among
