-- The jobs that change which parts there are: insert and delete.
use Rattle.std.specs.Prelude.{ℕ, zero, suc, ◌+◌, ◌*◌, ◌==◌, ◌&&◌, List, [], ◌∷◌, Bool, cond, fold, take, drop, length, leb, get_or}
use Rattle.pm3_types.specs.declared.places.Place.TheVariants.{Word, Reference}
use Rattle.pm3_types.specs.Record.{Record}
use Rattle.rand_pcg.specs.Lcg.{Lcg}
use Rattle.oo7_schema.specs.declared.sizes.Params.{Params}
use Rattle.oo7_schema.specs.Lookup.{Look, word, reference, items, put, set}
use Rattle.oo7_schema.specs.Entries.{Entry, with_entry, without_entry}
use Rattle.oo7_schema.specs.Flat.{Flat, index, with_look, with_index}
use Rattle.oo7_schema.specs.Members.{module_of, params_in, greatest_composite, document_of}
use Rattle.oo7_schema.specs.Walk.{bases}
use Rattle.oo7_schema.specs.Draws.{begun, below, drawn, after}
use Rattle.oo7_schema.specs.Composites.{composite_bounds, composite_objects, objects_in, part_names}

-- a graph in the course of a job, the generator, and the number of atomic parts that came or went
pub record Course : Type 0 where
  pub design : Flat
  pub draws : Lcg
  pub parts : ℕ

-- with these objects
abbrev pub put_all : Look → List (ℕ × Record) → Look
put_all look os = fold (λ (l : Look) (o : ℕ × Record). put l o.0 o.1) look os

-- with an entry for an object in the tree of a slot, under the object's word f
abbrev pub with_object : ℕ → ℕ → Flat → ℕ → Flat
with_object slot f g n = with_index g slot (with_entry (word g.look n f) n (index g slot))

-- without the entry for an object
abbrev pub without_object : ℕ → ℕ → Flat → ℕ → Flat
without_object slot f g n = with_index g slot (without_entry (word g.look n f) n (index g slot))

-- with an atomic part in the trees by id and by date
abbrev pub with_part : Flat → ℕ → Flat
with_part g part = with_object 2 2 (with_object 1 0 g part) part

abbrev pub without_part : Flat → ℕ → Flat
without_part g part = without_object 2 2 (without_object 1 0 g part) part

-- with composite part k, under these names, by these numbers: its objects, and the entries for its parts, its document and itself
abbrev pub with_composite : Params → ℕ → List ℕ → List ℕ → Flat → Flat
with_composite p k names nums g =
    let made = with_look g (put_all g.look (composite_objects p k names nums)) in
    with_object 4 0 (with_object 3 0 (fold with_part made (part_names p names)) (get_or names 1 0)) (get_or names 0 0)

-- the greatest composite id, and the greatest atomic id, that a design may have
abbrev pub most_composites : ℕ
most_composites = 99999999

abbrev pub most_atomics : ℕ
most_atomics = 4294967295

-- composite part k and its atomic parts have ids that a design may have
abbrev pub has_room : Params → ℕ → Bool
has_room p k = leb k most_composites && leb (k * p.atomics) most_atomics

-- base assembly i of the walk gets the composite part c at a place
abbrev pub used : ℕ → ℕ → ℕ → Flat → Flat
used i place c g = with_look g (set g.look (get_or (bases g) i 0) (Reference (2 + place)) c)

-- the module's greatest ids are those of composite part k
abbrev pub counted : Params → ℕ → Flat → Flat
counted p k g = with_look g (set (set g.look (module_of g) (Word 2) (k * p.atomics)) (module_of g) (Word 3) k)

-- one insertion: composite part k is made, and a drawn base assembly gets it at a drawn place
abbrev pub inserted : Params → ℕ → List ℕ → Course → Course
inserted p k names s =
    let nums = drawn (composite_bounds p) s.draws in
    let bounds = length (bases s.design) ∷ 3 ∷ [] in
    let chosen = drawn bounds (after (composite_bounds p) s.draws) in
    record {
      design = counted p k (used (get_or chosen 0 0) (get_or chosen 1 0) (get_or names 0 0) (with_composite p k names nums s.design));
      draws = after bounds (after (composite_bounds p) s.draws);
      parts = s.parts + p.atomics;
    }

-- at most so many insertions, the next being composite part k, until the ids are used up; each takes its names in order
abbrev pub insertions : Params → ℕ → ℕ → List ℕ → Course → Course
insertions p zero k names s = s
insertions p (suc tries) k names s =
    cond (has_room p k) (insertions p tries (k + 1) (drop (objects_in p) names) (inserted p k (take (objects_in p) names) s)) s

-- the course of `insert`, whose makes draw these names
abbrev pub insert : Flat → ℕ → List ℕ → Course
insert g choice names =
    insertions (params_in g) 5 (greatest_composite g + 1) names (record { design = g; draws = begun choice 7; parts = 0 })

-- a place of an assembly that names c becomes nil
abbrev pub cleared : ℕ → Look → ℕ → ℕ → Look
cleared c look base place = cond (reference look base place == c) (set look base (Reference place) 0) look

-- no place of a base assembly names c
abbrev pub unlinked : ℕ → Look → ℕ → Look
unlinked c look base = fold (λ (l : Look) (place : ℕ). cleared c l base place) look (2 ∷ 3 ∷ 4 ∷ [])

-- without the composite part of an entry: its parts, its document and itself leave their trees, and the base assemblies name it no more
abbrev pub without_composite : Entry → Flat → Flat
without_composite e g =
    let c = e.1 in
    let less = without_object 3 0 (fold without_part g (items g.look c)) (document_of g.look c) in
    let rest = with_index less 4 (without_entry e.0 c (index less 4)) in
    with_look rest (fold (unlinked c) rest.look (bases g))

-- one deletion: a drawn entry is taken, where there is one
abbrev pub deleted : Course → Course
deleted s =
    let es = index s.design 4 in
    let draw = below (length es) s.draws in
    let e = get_or es draw.0 (0, 0) in
    record {
      design = without_composite e s.design;
      draws = draw.1;
      parts = s.parts + length (items s.design.look e.1);
    }

-- so many deletions, while there are composite parts
abbrev pub deletions : ℕ → Course → Course
deletions zero s = s
deletions (suc tries) s = cond (length (index s.design 4) == 0) s (deletions tries (deleted s))

-- the course of `delete`
abbrev pub delete : Flat → ℕ → Course
delete g choice = deletions 5 (record { design = g; draws = begun choice 7; parts = 0 })
