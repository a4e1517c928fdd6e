-- Document 01, Bytes and signs.
use Rattle.std.specs.Prelude.{ℕ, zero, suc, ◌+◌, ◌-◌, Bool, cond, ◌&&◌, List, [], ◌∷◌, get_or, eqb, leb}
use Prim.Native.Char.{code}
use Prim.Native.String.{String}
use Rattle.std.specs.Prelude.{Option, None, Some}
use Rattle.decimal.specs.Operand.{is_digit}
use Rattle.language.specs.declared.signs.Sign.{Sign}
use Rattle.language.specs.declared.signs.Sign.TheVariants.{Plain, Dollar, Comma, Semicolon, Tilde, Quote, Unquote}

-- "A text is bytes, each 8 bits."
abbrev pub Bytes : Type 0
Bytes = List ℕ

-- bytes written as quoted text
abbrev pub ascii : String → Bytes
ascii String.[] = []
ascii (String.◌∷◌ c s) = code c ∷ ascii s

-- "A table of 256 entries gives each byte its kind, 0 for plain and 1 to 6 for the signs in that order."
abbrev pub Table : Type 0
Table = List ℕ

abbrev pub sign_of_kind : ℕ → Sign
sign_of_kind k =
    cond (eqb k 1) Dollar
    (cond (eqb k 2) Comma
    (cond (eqb k 3) Semicolon
    (cond (eqb k 4) Tilde
    (cond (eqb k 5) Quote
    (cond (eqb k 6) Unquote Plain)))))

-- and the kind of a sign
abbrev pub kind_of : Sign → ℕ
kind_of Plain = 0
kind_of Dollar = 1
kind_of Comma = 2
kind_of Semicolon = 3
kind_of Tilde = 4
kind_of Quote = 5
kind_of Unquote = 6

abbrev pub sign_of : Table → ℕ → Sign
sign_of T b = sign_of_kind (get_or T b 0)

-- What a byte means at a depth of quotes: it is copied, or left out, with the depth after it; or it is a sign outside of quotes.
pub data Meaning : Type 0 where
  copied : ℕ → Meaning
  left_out : ℕ → Meaning
  opens separates applies fetches unquotes : Meaning

abbrev pub outside : Sign → Meaning
outside Plain = copied 0
outside Dollar = opens
outside Comma = separates
outside Semicolon = applies
outside Tilde = fetches
outside Quote = left_out 1
outside Unquote = unquotes

-- One Scan: "the outermost pair is dropped, inner ones are copied. Inside, only quotes are recognised."
abbrev pub closes_to : ℕ → Meaning
closes_to zero = left_out 0
closes_to (suc q) = copied (suc q)

-- inside of q + 1 pairs of quotes
abbrev pub inside : ℕ → Sign → Meaning
inside q Plain = copied (suc q)
inside q Dollar = copied (suc q)
inside q Comma = copied (suc q)
inside q Semicolon = copied (suc q)
inside q Tilde = copied (suc q)
inside q Quote = copied (suc (suc q))
inside q Unquote = closes_to q

unfoldable pub meaning : Table → ℕ → ℕ → Meaning
meaning T zero b = outside (sign_of T b)
meaning T (suc q) b = inside q (sign_of T b)

-- the parameter that the byte after `~` in a body stands for by document 01: "0 is the name", "a digit only"
abbrev pub parameter_digit : ℕ → Option ℕ
parameter_digit b = cond (is_digit b) (Some (b - 48)) None

-- Document 02, One: "a lower-case letter `a` to `z`"
abbrev pub is_letter : ℕ → Bool
is_letter b = leb 97 b && leb b 122

-- "After `~` in a body, a lower-case letter `a` to `z` fetches parameters 10 to 35."
abbrev pub parameter_number : ℕ → Option ℕ
parameter_number b = let digit = parameter_digit b in cond (is_letter b) (Some (b - 97 + 10)) digit

-- what bytes stand for: their kinds, and after `~` in a body their parameters
pub record Language : Type 0 where
  pub table : Table
  pub parameter_number : ℕ → Option ℕ

-- the language as it is, with any table
abbrev pub language : Table → Language
language T = record { table = T; parameter_number = parameter_number }

-- the language before request One
abbrev pub digits_only : Table → Language
digits_only T = record { table = T; parameter_number = parameter_digit }

-- the standard table: `$` 1, `,` 2, `;` 3, `~` 4, `<` 5, `>` 6
abbrev pub standard : Table
standard =
    0 ∷ 0 ∷ 0 ∷ 0 ∷ 0 ∷ 0 ∷ 0 ∷ 0 ∷ 0 ∷ 0 ∷ 0 ∷ 0 ∷ 0 ∷ 0 ∷ 0 ∷ 0 ∷
    0 ∷ 0 ∷ 0 ∷ 0 ∷ 0 ∷ 0 ∷ 0 ∷ 0 ∷ 0 ∷ 0 ∷ 0 ∷ 0 ∷ 0 ∷ 0 ∷ 0 ∷ 0 ∷
    0 ∷ 0 ∷ 0 ∷ 0 ∷ 1 ∷ 0 ∷ 0 ∷ 0 ∷ 0 ∷ 0 ∷ 0 ∷ 0 ∷ 2 ∷ 0 ∷ 0 ∷ 0 ∷
    0 ∷ 0 ∷ 0 ∷ 0 ∷ 0 ∷ 0 ∷ 0 ∷ 0 ∷ 0 ∷ 0 ∷ 0 ∷ 3 ∷ 5 ∷ 0 ∷ 6 ∷ 0 ∷
    0 ∷ 0 ∷ 0 ∷ 0 ∷ 0 ∷ 0 ∷ 0 ∷ 0 ∷ 0 ∷ 0 ∷ 0 ∷ 0 ∷ 0 ∷ 0 ∷ 0 ∷ 0 ∷
    0 ∷ 0 ∷ 0 ∷ 0 ∷ 0 ∷ 0 ∷ 0 ∷ 0 ∷ 0 ∷ 0 ∷ 0 ∷ 0 ∷ 0 ∷ 0 ∷ 0 ∷ 0 ∷
    0 ∷ 0 ∷ 0 ∷ 0 ∷ 0 ∷ 0 ∷ 0 ∷ 0 ∷ 0 ∷ 0 ∷ 0 ∷ 0 ∷ 0 ∷ 0 ∷ 0 ∷ 0 ∷
    0 ∷ 0 ∷ 0 ∷ 0 ∷ 0 ∷ 0 ∷ 0 ∷ 0 ∷ 0 ∷ 0 ∷ 0 ∷ 0 ∷ 0 ∷ 0 ∷ 4 ∷ 0 ∷
    0 ∷ 0 ∷ 0 ∷ 0 ∷ 0 ∷ 0 ∷ 0 ∷ 0 ∷ 0 ∷ 0 ∷ 0 ∷ 0 ∷ 0 ∷ 0 ∷ 0 ∷ 0 ∷
    0 ∷ 0 ∷ 0 ∷ 0 ∷ 0 ∷ 0 ∷ 0 ∷ 0 ∷ 0 ∷ 0 ∷ 0 ∷ 0 ∷ 0 ∷ 0 ∷ 0 ∷ 0 ∷
    0 ∷ 0 ∷ 0 ∷ 0 ∷ 0 ∷ 0 ∷ 0 ∷ 0 ∷ 0 ∷ 0 ∷ 0 ∷ 0 ∷ 0 ∷ 0 ∷ 0 ∷ 0 ∷
    0 ∷ 0 ∷ 0 ∷ 0 ∷ 0 ∷ 0 ∷ 0 ∷ 0 ∷ 0 ∷ 0 ∷ 0 ∷ 0 ∷ 0 ∷ 0 ∷ 0 ∷ 0 ∷
    0 ∷ 0 ∷ 0 ∷ 0 ∷ 0 ∷ 0 ∷ 0 ∷ 0 ∷ 0 ∷ 0 ∷ 0 ∷ 0 ∷ 0 ∷ 0 ∷ 0 ∷ 0 ∷
    0 ∷ 0 ∷ 0 ∷ 0 ∷ 0 ∷ 0 ∷ 0 ∷ 0 ∷ 0 ∷ 0 ∷ 0 ∷ 0 ∷ 0 ∷ 0 ∷ 0 ∷ 0 ∷
    0 ∷ 0 ∷ 0 ∷ 0 ∷ 0 ∷ 0 ∷ 0 ∷ 0 ∷ 0 ∷ 0 ∷ 0 ∷ 0 ∷ 0 ∷ 0 ∷ 0 ∷ 0 ∷
    0 ∷ 0 ∷ 0 ∷ 0 ∷ 0 ∷ 0 ∷ 0 ∷ 0 ∷ 0 ∷ 0 ∷ 0 ∷ 0 ∷ 0 ∷ 0 ∷ 0 ∷ 0 ∷ []

-- "Three limits are named once and used everywhere: text, cells and output may each be lent up to 65,536 long."
abbrev pub text_limit : ℕ
text_limit = 65536

abbrev pub cells_limit : ℕ
cells_limit = 65536

abbrev pub output_limit : ℕ
output_limit = 65536
