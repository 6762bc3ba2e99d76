-- References that lead to no object.
use Rattle.std.specs.Prelude.{ℕ, ◌≡◌, ◌≢◌, ◌⊎◌, true, false, List, Option, Some, None, Err}
use Rattle.std.specs.FinMap.{get}
use Rattle.pm3_core.specs.declared.naming.TheConstants.{BASE}
use Rattle.pm3_disk.specs.Content.{IfTold}
use Rattle.pm3_types.specs.Fields.{Fields}
use Rattle.pm3_types.specs.Layout.{PageImage, is_start, page_in, word_in}
use Rattle.pm3_types.specs.Numbering.{is_among, names_of}
use Rattle.pm3_types.specs.Shown as shown
use Rattle.pm3_page.specs.PageMap.{Images}
use Rattle.pm3_pagefile.specs.Loading.{read_of}
use Rattle.pm3_pagefile.specs.PageBytes.{page_at}
use Rattle.oo7_dump.specs.ByAddress.{met_addresses}
use Rattle.oo7_dump.specs.Held.{AreAmong}
use Rattle.oo7_dump.specs.Raw.{raw_at, root_words}

-- a page isn't held, and its bytes depart from the form, first at this word
pub record IsUnread (catalog : List Fields) (pages : ℕ) (content : Option (List ℕ)) (images : Images) (page word : ℕ) : Type 0 where
  pub absent : get images page ≡ None
  pub read : IfTold content (λ bytes. read_of catalog BASE pages page (page_at page bytes) ≡ Err word)

-- a page is held, and no object begins at this word of it
pub record IsBare (images : Images) (page word : ℕ) : Type 0 where
  pub image : PageImage
  pub on : get images page ≡ Some image
  pub bare : is_start image.sheet word ≡ false

-- no object is found at the address, since its page isn't read, or since none begins there
pub record IsLost (catalog : List Fields) (pages : ℕ) (content : Option (List ℕ)) (images : Images) (at page word : ℕ) : Type 0 where
  pub some : at ≢ 0
  pub on : page ≡ page_in BASE at
  pub why : IsUnread catalog pages content images page word ⊎ ((word ≡ word_in BASE at) × IsBare images page word)

-- one of these addresses is lost
pub record IsOneLost (catalog : List Fields) (pages : ℕ) (content : Option (List ℕ)) (images : Images) (names : List ℕ) (page word : ℕ) : Type 0 where
  pub at : ℕ
  pub among : is_among names at ≡ true
  pub lost : IsLost catalog pages content images at page word

-- For all images that the held ones are among: these are the addresses in the root slots, or those to which an object refers
-- that was met.
abbrev pub AreMentioned : List Fields → Images → List ℕ → Type 0
AreMentioned catalog images names = (all : shown.Images) → AreAmong images all
    → (names ≡ root_words (get all 2))
    ⊎ ((count : ℕ) × (a : ℕ) × (is_among (met_addresses catalog BASE all count) a ≡ true) × (names ≡ names_of catalog (raw_at catalog BASE all a)))

-- page 2 isn't read, or an address is lost that is mentioned
abbrev pub HasLost : List Fields → ℕ → Option (List ℕ) → Images → ℕ → ℕ → Type 0
HasLost catalog pages content images page word = ((page ≡ 2) × IsUnread catalog pages content images page word)
    ⊎ ((names : List ℕ) × AreMentioned catalog images names × IsOneLost catalog pages content images names page word)
