-- What each word of a page in a file is, from the words before it.
use Rattle.std.specs.Prelude.{ℕ, ◌+◌, ◌-◌, ◌*◌, ◌==◌, ◌||◌, cond, nat_lt, nat_le}
use Rattle.pm3_types.specs.Fields.{Fields, is_reference}
use Rattle.pm3_types.specs.declared.type_map.Tail.{Tail}
use Rattle.pm3_types.specs.declared.type_map.Tail.TheVariants.{Empty, Refs}
use Rattle.pm3_types.specs.declared.type_map.Tail.TheVariants as tails
use Rattle.pm3_page.specs.declared.roles.Reading.{Reading}
use Rattle.pm3_page.specs.declared.roles.Role.{Role}
use Rattle.pm3_page.specs.declared.roles.Role.TheVariants.{PageHead, Zero, Head, Name, Number, Reference}
use Rattle.pm3_page.specs.declared.roles.Role.TheVariants as roles

-- word k of a tail of this length; an empty tail has none
abbrev pub tail_role : Tail → ℕ → ℕ → Role
tail_role Empty len k = Zero
tail_role Refs len k = Reference
tail_role tails.Bytes len k = roles.Bytes (len - 8 * k)

-- word k of an object's body
abbrev pub body_role : Fields → ℕ → ℕ → Role
body_role map len k = cond (nat_lt k map.count) (cond (is_reference map k) Reference Number) (tail_role map.tail len (k - map.count))

-- word i of a page of which this has been read
abbrev pub role_at : Reading → ℕ → Role
role_at r i =
    cond (i == 0) PageHead
    (cond ((i == 1) || nat_le r.end i) Zero
    (cond (i == r.next) Head
    (cond (i == r.at + 1) Name (body_role r.map r.tail (i - (r.at + 2))))))
