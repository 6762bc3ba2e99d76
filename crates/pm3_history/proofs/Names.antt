-- Names come into the graph by commits that made them.
use Rattle.std.proofs.Common.{◌≡◌, ◌∙◌, ◌⊎◌, ◌||◌, inl, inr, ℕ, Bool, true, false, List, [], ◌∷◌, Option, Some, None, refl, sym, ap}
use Rattle.std.specs.Option.{option_or}
use Rattle.std.specs.FinMap.{get}
use Rattle.std.proofs.lemmas.Bool.{false≢true}
use Rattle.pm3_types.specs.Fields.{Fields}
use Rattle.pm3_types.specs.Graph.{Part}
use Rattle.pm3_types.specs.Record.{Record}
use Rattle.pm3_types.specs.Shown.{shown}
use Rattle.pm3_types.proofs.Books.{shown_from}
use Rattle.pm3_types.proofs.Parts.{get-with_part}
use Rattle.pm3_history.specs.Entry.{Pass, Done}
use Rattle.pm3_history.specs.State.{State, all_images, step, entry_after}
use Rattle.pm3_history.specs.Lawful.{MeetsPass, IsLawful, images_by}
use Rattle.pm3_history.specs.Named.{book_by}
use Rattle.pm3_history.specs.Chronicled.{Chronicled}
use Rattle.pm3_history.specs.ChronicleLaws.{NamesAreMade, made_by, some_made}
use Rattle.pm3_history.proofs.Chronicles.{entry_keeps}
use Rattle.pm3_history.proofs.Laying.{some_none}
use Rattle.pm3_history.proofs.Replacing.{object_shown}

first_false : (a b : Bool) → (a || b) ≡ false → a ≡ false
first_false true b is = is
first_false false b is = refl

second_false : (a b : Bool) → (a || b) ≡ false → b ≡ false
second_false true b is = absurd (false≢true (sym is))
second_false false b is = is

-- an object of the book has its name in the graph
pub name_in_graph : (catalog : List Fields) (base : ℕ) (st : State) (a n : ℕ) → Chronicled catalog base st → get st.book a ≡ Some n
    → (r : Record) × (get st.graph.records n ≡ Some r)
name_in_graph catalog base st a n chron has =
    let there = object_shown catalog base st.book (all_images st) a n chron.fits (chron.placed a n has) has in
    (_, chron.shows.records n _ there.2)

-- each object by which a commit is read is one of the book before it, or its transaction made it
old_or_made : (catalog : List Fields) (base pages : ℕ) (st : State) (d : Done) (pass : Option Pass)
    → MeetsPass catalog base pages st (record (entry_after catalog base st d) { pass = pass }) pass
    → (a n : ℕ) → get (book_by base st.book pass) a ≡ Some n → (get st.book a ≡ Some n) ⊎ (made_by pass n ≡ true)
old_or_made catalog base pages st d None meets a n has = inl has
old_or_made catalog base pages st d (Some p) meets a n has = meets.made a n has

-- a name that the graph lacks and that the commit did not make isn't left
not_left : (catalog : List Fields) (base pages : ℕ) (st : State) (d : Done) (n : ℕ) → Chronicled catalog base st
    → IsLawful catalog base pages st (entry_after catalog base st d) → get st.graph.records n ≡ None → made_by d.pass n ≡ false
    → get (step base st (entry_after catalog base st d)).graph.records n ≡ None
not_left catalog base pages st d n chron lawful none spared = get-with_part st.graph left n ∙ by (get left.records n) refl
  where
    left : Part
    left = shown catalog base (book_by base st.book d.pass) d.left

    found : Part
    found = shown catalog base st.book d.found

    seen : Part
    seen = shown catalog base (book_by base st.book d.pass) (images_by d.written d.pass)

    in_graph : (r : Record) → get st.graph.records n ≡ Some r → ⊥
    in_graph r is = some_none (get st.graph.records n) r is none

    made : (a : ℕ) → (get st.book a ≡ Some n) ⊎ (made_by d.pass n ≡ true) → ⊥
    made a (inl old) = let there = name_in_graph catalog base st a n chron old in in_graph there.0 there.1
    made a (inr new) = false≢true (sym spared ∙ new)

    which : (r : Record) → (get found.records n ≡ Some r) ⊎ (get seen.records n ≡ Some r) → ⊥
    which r (inl is) = in_graph r (lawful.tells.found.records n r is)
    which r (inr is) =
        let from = shown_from catalog base (book_by base st.book d.pass) (images_by d.written d.pass) n r is in
        made from.0 (old_or_made catalog base pages st d d.pass lawful.by_pass from.0 n from.1)

    by : (o : Option Record) → get left.records n ≡ o → option_or (get left.records n) (get st.graph.records n) ≡ None
    by None is = ap (λ (o : Option Record). option_or o (get st.graph.records n)) is ∙ none
    by (Some r) is = absurd (which r (lawful.tells.unchanged n r is))

pub names_are_made : NamesAreMade
names_are_made catalog base pages st [] n chron are none spared = none
names_are_made catalog base pages st (d ∷ ds) n chron are none spared =
    names_are_made catalog base pages (step base st (entry_after catalog base st d)) ds n
    (entry_keeps catalog base pages st (entry_after catalog base st d) chron are.0) are.1
    (not_left catalog base pages st d n chron are.0 none (first_false (made_by d.pass n) (some_made ds n) spared))
    (second_false (made_by d.pass n) (some_made ds n) spared)
