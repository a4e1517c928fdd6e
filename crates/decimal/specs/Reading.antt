-- Reading byte by byte: the reader after each byte, and the bytes that a reader has taken.
use Rattle.std.specs.Prelude.{ℕ, ◌+◌, ◌-◌, ◌*◌, min, ◌≡◌, Bool, true, false, cond, List, [], ◌∷◌, eqb, ℤ, pos, neg_ℤ}
use Rattle.decimal.specs.declared.reader.Stage.{Stage}
use Rattle.decimal.specs.declared.reader.Stage.TheVariants.{Start, Signed, Digits, Refused}
use Rattle.decimal.specs.declared.reader.Reader.{Reader}
use Rattle.decimal.specs.Operand.{is_digit}

-- the size of a number is kept up to one more than any operand has
abbrev pub beyond : ℕ
beyond = 2147483649

abbrev pub new_reader : Reader
new_reader = record { stage = Start; negative = false; size = 0 }

abbrev pub refusing : Reader → Reader
refusing r = record { stage = Refused; negative = r.negative; size = r.size }

abbrev pub after_digit : Reader → ℕ → Reader
after_digit r b = cond (is_digit b) (record { stage = Digits; negative = r.negative; size = min (10 * r.size + (b - 48)) beyond }) (refusing r)

abbrev pub after_sign : Reader → Bool → Reader
after_sign r minus = record { stage = Signed; negative = minus; size = r.size }

abbrev pub after_first : Reader → ℕ → Reader
after_first r b = cond (eqb b 43) (after_sign r false) (cond (eqb b 45) (after_sign r true) (after_digit r b))

abbrev pub after_at : Stage → Reader → ℕ → Reader
after_at Start r b = after_first r b
after_at Signed r b = after_digit r b
after_at Digits r b = after_digit r b
after_at Refused r b = r

-- the reader after one byte more
abbrev pub after : Reader → ℕ → Reader
after r b = after_at r.stage r b

-- the reader after these bytes
unfoldable pub after_all : Reader → List ℕ → Reader
after_all r [] = r
after_all r (b ∷ bs) = after_all (after r b) bs

-- this reader has taken these bytes
unfoldable pub Took : List ℕ → Reader → Type 0
Took bytes r = r ≡ after_all new_reader bytes

-- the number of a sign and a size
abbrev pub signed : Bool → ℕ → ℤ
signed true n = neg_ℤ (pos n)
signed false n = pos n
