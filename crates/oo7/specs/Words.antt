-- The commands, as lists of words.
use Rattle.std.specs.Prelude.{ℕ, Bool, false, not, ◌&&◌, ◌||◌, ◌==◌, nat_le, nat_lt, length, if◌then◌else◌, List, [], ◌∷◌, map, Option, Some, None, option_map, String, string_bytes, codes, bytes_eq}
use Rattle.std.specs.Global.{Global}
use Rattle.std.specs.List.{list_all}
use Rattle.std.specs.Char.{is_ascii_digit}
use Rattle.std.specs.Str.Parse.{digits_value}
use Rattle.oo7.specs.declared.words.Command.{Command}
use Rattle.oo7.specs.declared.words.Command.TheVariants.{Create, Checkpoint, Dump, NotYet}

-- the bytes of each word
abbrev pub texts : List (String Global) → List (List ℕ)
texts words = map string_bytes words

-- decimal digits, one at least, and no zero before others
abbrev pub is_decimal : List ℕ → Bool
is_decimal [] = false
is_decimal (digit ∷ digits) = not (digit == 48 && nat_lt 0 (length digits)) && list_all is_ascii_digit (digit ∷ digits)

-- the number that a word writes, where it lies within these bounds
abbrev pub number_of : ℕ → ℕ → List ℕ → Option ℕ
number_of least most text =
    let number = digits_value 10 text in
    if is_decimal text && (nat_le least number && nat_le number most) then Some number else None

-- PAGES, from 16 to 16384
abbrev pub create_of : List (List ℕ) → Option Command
create_of [] = None
create_of (pages ∷ []) = option_map Create (number_of 16 16384 pages)
create_of (pages ∷ more ∷ words) = None

-- a command of one word
abbrev pub alone : Command → List (List ℕ) → Option Command
alone command [] = Some command
alone command (more ∷ words) = None

-- the commands that the program doesn't have yet
abbrev pub is_later : List ℕ → Bool
is_later word = bytes_eq word (codes "build") || bytes_eq word (codes "run") || bytes_eq word (codes "drill")

-- the command that the words after the program's name are, if they are one
abbrev pub command_of : List (List ℕ) → Option Command
command_of [] = None
command_of (word ∷ words) =
    if bytes_eq word (codes "create") then create_of words
    else if bytes_eq word (codes "checkpoint") then alone Checkpoint words
    else if bytes_eq word (codes "dump") then alone Dump words
    else if is_later word then Some NotYet else None
