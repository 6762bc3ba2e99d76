-- The file as pages of 4,096 bytes, and what writes to some of them leave.
use Rattle.std.specs.Prelude.{◌≡◌, ℕ, ◌*◌, ◌≤◌, List, length, take, drop, Option, None, unwrap_or}

-- the bytes of a page, fewer where the file ends within it
abbrev pub page_at : ℕ → List ℕ → List ℕ
page_at page bytes = take 4096 (drop (4096 * page) bytes)

-- bytes that are given for some of the pages
abbrev pub Given : Type 0
Given = ℕ → Option (List ℕ)

-- each page has the bytes that are given for it, or else its old ones
pub record IsReplaced (given : Given) (old new : List ℕ) : Type 0 where
  pub each : (page : ℕ) → page_at page new ≡ unwrap_or (given page) (page_at page old)
  pub no_shorter : length old ≤ length new

-- no page has changed but those that bytes are given for, which have any bytes
pub record ChangesOnly (given : Given) (old new : List ℕ) : Type 0 where
  pub others : (page : ℕ) → given page ≡ None → page_at page new ≡ page_at page old
  pub no_shorter : length old ≤ length new
