-- What single steps tell of the view after them.
use Rattle.std.specs.Prelude.{◌≡◌, ◌≢◌, ℕ, ◌+◌, ◌<◌, ◌≤◌, ◌==◌, true, false, if◌then◌else◌, min, length, List, ◌∷◌, ◌++◌, Option, None}
use Rattle.atomic_table.specs.Table.{Step, Me, rest}
use Rattle.pm3_history.specs.Entry.{Done}
use Rattle.pm3_table.specs.declared.view.Deed.TheVariants.{Stored, Stood, Marked, Found, Unmarked}
use Rattle.pm3_table.specs.declared.view.Told.{Told}
use Rattle.pm3_table.specs.declared.view.View.{View}
use Rattle.pm3_table.specs.Carried.{dropped}
use Rattle.pm3_table.specs.Deeds.{word_of}
use Rattle.pm3_table.specs.Holds.{holds_of}
use Rattle.pm3_table.specs.Ops.{did, refused, took, gave, turned, knew, settled_in, settled_held, begins_draw, saw_full}
use Rattle.pm3_table.specs.Settles.{unmark_log}
use Rattle.pm3_table.specs.Telling.{limit, Lawful, NoneNames, Good, spans_in, counted_in, is_steady, HasInSpace, IsSound, mark_by}
use Rattle.pm3_table.specs.Words.{mark_in, space_in, turn_unit, unit_word}

module _ {S : Type 0} where
  -- a store to a place of the own row
  abbrev pub stores : ℕ → Step S → Me S View → ℕ → Me S View → Type 0
  stores place st me n me' = me' ≡ (did me.0 (Stored place n), me.1)

  -- a load of a row word
  abbrev pub finds : ℕ → ℕ → Step S → Me S View → ℕ → Me S View → Type 0
  finds row place st me n me' = (me' ≡ (did me.0 (Found row place n), me.1)) × (row ≡ me.0.row → n ≡ word_of me.0.log place)

  -- a load of the word of the page that a place names
  abbrev pub validates : Told → ℕ → ℕ → Step S → Me S View → ℕ → Me S View → Type 0
  validates told place page st me n me' =
      (me' ≡ ((if mark_in n == 0 then did me.0 (Stood place) else refused me.0 page n), me.1))
      × ((j : ℕ) → HasInSpace told me.0 j page → n ≡ unit_word 0 (mark_by me.0 page) (j + 1))

  -- a load of a page's word
  abbrev pub looks : Told → ℕ → Step S → Me S View → ℕ → Me S View → Type 0
  looks told page st me n me' =
      (me' ≡ ((if space_in n == 0 then knew me.0 page else me.0), me.1))
      × ((j : ℕ) → HasInSpace told me.0 j page → space_in n ≡ j + 1)
      × (is_steady told me.0 page ≡ true → space_in n ≡ 0)
      × ((j : ℕ) → HasInSpace told me.0 j page → n ≡ unit_word 0 (mark_by me.0 page) (j + 1))
      × (is_steady told me.0 page ≡ true → holds_of me.0.holds page ≡ (n == me.0.row + 1))

  -- a load that leaves the view, which has seen a lawful history
  abbrev pub recalls : Told → Step S → Me S View → ℕ → Me S View → Type 0
  recalls told st me n me' = (me' ≡ me) × Lawful told me.0.seen

  -- a mark, and a mark taken off
  abbrev pub marks : ℕ → Step S → Me S View → ℕ → Me S View → Type 0
  marks page st me n me' = me' ≡ (did me.0 (Marked page), me.1)

  abbrev pub unmarks : ℕ → Step S → Me S View → ℕ → Me S View → Type 0
  unmarks page st me n me' = me' ≡ (did me.0 (Unmarked page), me.1)

  -- a load of a counter, from which this one is about to draw
  abbrev pub counts : Told → ℕ → Step S → Me S View → ℕ → Me S View → Type 0
  counts told c st me n me' =
      (limit told c ≤ n → me' ≡ (saw_full c me.0, me.1)) × (n < limit told c → me' ≡ (begins_draw c me.0, me.1))

  -- a fetch of a counter; `drew` is what it is to have drawn a number, which then is new
  abbrev pub fetches : Told → ℕ → (View → ℕ → View) → (Told → View → ℕ → Type 0) → Step S → Me S View → ℕ → Me S View → Type 0
  fetches told c drew new st me n me' =
      (limit told c ≤ n → me' ≡ (saw_full c me.0, me.1)) × (n < limit told c → (me' ≡ (drew me.0 n, me.1)) × new told me.0 n)

-- a page settled in a space, and as held
module _ {V : Type 0} where
  abbrev pub settles_in : ℕ → ℕ → Step (Option V) → Me (Option V) View → ℕ → Me (Option V) View → Type 0
  settles_in page unit st me n me' =
      (me' ≡ (settled_in me.0 page unit (unmark_log me.0.log page), me.1)) × (holds_of me.0.holds page ≡ false)

  abbrev pub settles_held : ℕ → Step (Option V) → Me (Option V) View → ℕ → Me (Option V) View → Type 0
  settles_held page st me n me' =
      (me' ≡ (settled_held me.0 page (unmark_log me.0.log page), (page, None) ∷ me.1)) × (holds_of me.0.holds page ≡ false)

  -- a load of the own word of a held unit, whose slot then comes to the top
  abbrev pub reaches : ℕ → Step (Option V) → Me (Option V) View → ℕ → Me (Option V) View → Type 0
  reaches u st me n me' = me' ≡ (me.0, (u, None) ∷ dropped u me.1)

  -- a store of 0 to the word of a unit, whose slot is on top
  abbrev pub gives : ℕ → Step (Option V) → Me (Option V) View → ℕ → Me (Option V) View → Type 0
  gives u st me n me' = me' ≡ (gave me.0 u, rest me.1)

  -- the same for the turn, with commits that join the history and others that failed
  abbrev pub turns : (V → ℕ) → ℕ → List Done → List Done → Step (Option V) → Me (Option V) View → ℕ → Me (Option V) View → Type 0
  turns counted turn more failed st me n me' =
      (x : Option V) → me.1 ≡ (turn, x) ∷ rest me.1 → me' ≡ (turned turn me.0 more failed (counted_in counted x), rest me.1)

-- What is told of a unit that was taken: its slot, what came to the history, and the failed commits.
pub record Taken {V : Type 0} (stands : Told → List Done → List Done → ℕ → V → Type 0) (spans : V → List ℕ) (counted : V → ℕ) (told : Told)
    (old : View) (new : View) (u : ℕ) (slot : Option V) : Type 0 where
  pub between : List Done
  pub lost : List Done
  pub view : new ≡ took (turn_unit told.pages) old u between lost (spans_in spans slot) (counted_in counted slot)
  pub apart : (w : ℕ) → holds_of old.holds w ≡ true → NoneNames told between w
  pub good : Good stands told lost (old.seen ++ between) u slot
  pub sound : IsSound told new lost
  pub heard : u ≡ turn_unit told.pages → old.faults ≤ counted_in counted slot

-- an exchange of a unit's word, from 0
abbrev pub takes : {V : Type 0} → (Told → List Done → List Done → ℕ → V → Type 0) → (V → List ℕ) → (V → ℕ) → Told → ℕ
    → Step (Option V) → Me (Option V) View → ℕ → Me (Option V) View → Type 0
takes {V} stands spans counted told u st me n me' =
    (n ≢ 0 → me' ≡ (refused me.0 u n, me.1))
    × (n ≡ 0 → (slot : Option V) × Taken stands spans counted told me.0 me'.0 u slot × (me'.1 ≡ (u, slot) ∷ me.1))

-- a load of the row counter, by which a mutator sees whether all others were joined into it; those that were are among those
-- made
abbrev pub lasts : {S : Type 0} → Step S → Me S View → ℕ → Me S View → Type 0
lasts st me n me' =
    (me' ≡ (record me.0 { last = min n 32 == length me.0.kept + 1; made = min n 32 }, me.1)) × (length me.0.kept + 1 ≤ min n 32)
