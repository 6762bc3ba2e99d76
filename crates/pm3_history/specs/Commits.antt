-- What a commit tells of the transaction that made it.
use Rattle.std.specs.Prelude.{ℕ, ◌≡◌, ◌⊎◌, ◌++◌, true, List, [], ◌∷◌, Some, None, is_some}
use Rattle.std.specs.FinMap.{get}
use Rattle.pm3_types.specs.Fields.{Fields}
use Rattle.pm3_types.specs.Layout.{Sheet}
use Rattle.pm3_types.specs.Shown.{FitsImages, shown}
use Rattle.pm3_graph.specs.declared.operations.Op.{Op}
use Rattle.pm3_graph.specs.Operation.{IsRun}
use Rattle.pm3_graph.specs.Frame.{AreNewTo}
use Rattle.pm3_history.specs.Entry.{Done}
use Rattle.pm3_history.specs.State.{State, all_images, entry_after, now}
use Rattle.pm3_history.specs.Lawful.{Writes, MeetsPass, AreLawful, images_by}
use Rattle.pm3_history.specs.Named.{book_by}
use Rattle.pm3_history.specs.Persistent.{persistent_book}
use Rattle.pm3_history.specs.Chronicled.{Chronicled}

-- The images found are last images and each of their pages is left with one. What is left was found, or is among the images by
-- which the entry is read, and these are all left. The operations run from what is found to what is left, and the names that
-- they make are new to the graph.
pub record IsCommitOf (catalog : List Fields) (base : ℕ) (st : State) (d : Done) (ops : List (Op × ℕ)) : Type 0 where
  pub last : (page : ℕ) (sheet : Sheet) → get d.found page ≡ Some sheet → get (all_images st) page ≡ Some sheet
  pub kept : (page : ℕ) → is_some (get d.found page) ≡ true → is_some (get d.left page) ≡ true
  pub read : (page : ℕ) (sheet : Sheet) → get (images_by d.written d.pass) page ≡ Some sheet → get d.left page ≡ Some sheet
  pub others : (page : ℕ) (sheet : Sheet) → get d.left page ≡ Some sheet
      → (get d.found page ≡ Some sheet) ⊎ (get (images_by d.written d.pass) page ≡ Some sheet)
  pub run : IsRun catalog ops (shown catalog base st.book d.found) (shown catalog base (book_by base st.book d.pass) d.left)
  pub new : AreNewTo st.graph ops

-- A commit without a pass whose transaction held pages of no space: each page left was found, what is written is left, and the
-- book of the persistent objects fits what is left.
pub record IsPlainCommit (catalog : List Fields) (base : ℕ) (st : State) (d : Done) : Type 0 where
  pub pass : d.pass ≡ None
  pub last : (page : ℕ) (sheet : Sheet) → get d.found page ≡ Some sheet → (get (all_images st) page ≡ Some sheet) × (get st.owner page ≡ None)
  pub held : (page : ℕ) → is_some (get d.left page) ≡ true → is_some (get d.found page) ≡ true
  pub written : (page : ℕ) (sheet : Sheet) → get d.written page ≡ Some sheet → get d.left page ≡ Some sheet
  pub fits : FitsImages catalog base (persistent_book base st) d.left

-- the images of such a commit may follow
abbrev pub PlainCommitsFollow : Type 0
PlainCommitsFollow = (catalog : List Fields) (base pages : ℕ) (st : State) (d : Done)
    → Chronicled catalog base st → IsPlainCommit catalog base st d
    → MeetsPass catalog base pages st (entry_after catalog base st d) d.pass

-- with a commit whose images may follow, a lawful history stays lawful
abbrev pub CommitsKeep : Type 0
CommitsKeep = (catalog : List Fields) (base pages : ℕ) (st : State) (h : List Done) (d : Done) (ops : List (Op × ℕ))
    → Chronicled catalog base st → AreLawful catalog base pages st h
    → let before = now catalog base st h in let e = entry_after catalog base before d in
    IsCommitOf catalog base before d ops → Writes catalog base pages before e → MeetsPass catalog base pages before e d.pass
    → AreLawful catalog base pages st (h ++ d ∷ [])

-- and its operations, with their answers, lead from the whole graph before it to the one after it
abbrev pub CommitsRun : Type 0
CommitsRun = (catalog : List Fields) (base pages : ℕ) (st : State) (h : List Done) (d : Done) (ops : List (Op × ℕ))
    → Chronicled catalog base st → AreLawful catalog base pages st h
    → IsCommitOf catalog base (now catalog base st h) d ops
    → IsRun catalog ops (now catalog base st h).graph (now catalog base st (h ++ d ∷ [])).graph
