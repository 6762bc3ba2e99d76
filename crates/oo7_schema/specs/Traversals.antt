-- The traversals T1, T2, T3, T6, T8 and T9. What T2 and T3 change at each visit is told by an extent.
use Rattle.std.specs.Prelude.{ℕ, ◌+◌, ◌-◌, ◌%◌, ◌==◌, List, Bool, true, false, cond, map, length, replicate, fold, flat_map, count_by, slice_index}
use Rattle.pm3_types.specs.declared.places.Place.TheVariants.{Word}
use Rattle.oo7_schema.specs.declared.jobs.Extent.{Extent}
use Rattle.oo7_schema.specs.declared.jobs.Extent.TheVariants.{A, B, C}
use Rattle.oo7_schema.specs.Lookup.{Look, word, reference, set}
use Rattle.oo7_schema.specs.Entries.{with_entry, without_entry}
use Rattle.oo7_schema.specs.Flat.{Flat, index, with_look, with_index}
use Rattle.oo7_schema.specs.Members.{manual_of, root_part, build_date, x_of, y_of}
use Rattle.oo7_schema.specs.Walk.{walk, all_parts}
use Rattle.oo7_schema.specs.Texts.{text_from}

-- T1 counts the parts of all visits, T6 the visits
abbrev pub t1 : Flat → ℕ
t1 g = length (all_parts g)

abbrev pub t6 : Flat → ℕ
t6 g = length (walk g)

-- the atomic parts that a job changes, in order: the root part of each visit, each part, or each part four times
abbrev pub extent : Flat → Extent → List ℕ
extent g A = map (root_part g.look) (walk g)
extent g B = all_parts g
extent g C = flat_map (λ (p : ℕ). replicate 4 p) (all_parts g)

-- T2's change of a part: x and y take each other's place
abbrev pub swapped : Look → ℕ → Look
swapped look p = set (set look p (Word 3) (y_of look p)) p (Word 4) (x_of look p)

-- the graph that T2 leaves
abbrev pub t2 : Flat → Extent → Flat
t2 g e = with_look g (fold swapped g.look (extent g e))

-- an odd date becomes the next one, an even date the one before
abbrev pub turned : ℕ → ℕ
turned date = cond (date % 2 == 0) (date - 1) (date + 1)

-- T3's change of a part: its date is turned, and its entry in the index of dates follows it
abbrev pub redated : Flat → ℕ → Flat
redated g p =
    let old = build_date g.look p in
    with_index (with_look g (set g.look p (Word 2) (turned old))) 2
    (with_entry (turned old) p (without_entry old p (index g 2)))

-- the graph that T3 leaves
abbrev pub t3 : Flat → Extent → Flat
t3 g e = fold redated g (extent g e)

-- the answer of T2 and T3: the number of changes
abbrev pub changes : Flat → Extent → ℕ
changes g e = length (extent g e)

-- the text of the manual
abbrev pub manual_text : Flat → List ℕ
manual_text g = text_from g.look (word g.look (manual_of g) 0) (reference g.look (manual_of g) 1)

-- T8 counts the bytes `I` of the manual
abbrev pub t8 : Flat → ℕ
t8 g = count_by (λ (b : ℕ). b == 73) (manual_text g)

abbrev pub bit : Bool → ℕ
bit true = 1
bit false = 0

-- T9 tells whether the first and the last byte of the manual are equal
abbrev pub t9 : Flat → ℕ
t9 g = bit (slice_index (manual_text g) 0 == slice_index (manual_text g) (length (manual_text g) - 1))
