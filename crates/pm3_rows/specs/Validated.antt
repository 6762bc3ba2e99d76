-- What a validation of a place does.
use Rattle.std.specs.Prelude.{◌⊎◌, ℕ}
use Rattle.atomic_table.specs.Seated.{TableId}
use Rattle.pm3_core.specs.Naming.{Names}
use Rattle.pm3_table.specs.declared.view.Deed.TheVariants.{Stood, Found}
use Rattle.pm3_table.specs.declared.view.View.{View}
use Rattle.pm3_table.specs.Deeds.{word_of}
use Rattle.pm3_table.specs.Ops.{did}
use Rattle.pm3_table.specs.Passes.{Becomes}

-- the view once it has read its own word at a place
abbrev pub reread : View → ℕ → View
reread v place = did v (Found v.row place (word_of v.log place))

-- the place stands, or its word names no page
abbrev pub Stands : ℕ → TableId × View → TableId × View → ℕ → Type 0
Stands pages old new place =
    ((page : ℕ) × Names pages (word_of old.1.log place) page × Becomes old new (did (reread old.1 place) (Stood place)))
    ⊎ (((page : ℕ) → Names pages (word_of old.1.log place) page → ⊥) × Becomes old new (reread old.1 place))
