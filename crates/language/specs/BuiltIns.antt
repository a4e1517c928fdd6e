-- Document 01: the built-ins, what each needs, its checks in their order and its result. Document 02, Four: three more; Five: a
-- check of DEF; Nine: LOCK.
use Rattle.std.specs.Prelude.{ℕ, cond, List, [], ◌∷◌, length, drop, get_or, ltb, ℤ, Result, Ok, Err}
use Rattle.decimal.specs.declared.operations.Operation.TheVariants.{Sum, Difference, Product, Quotient, Remainder}
use Rattle.decimal.specs.declared.operations.Refusal.{Refusal}
use Rattle.decimal.specs.Refusals.{number_of}
use Rattle.decimal.specs.Arithmetic.{calculated}
use Rattle.decimal.specs.Shortest.{digits, shortest}
use Rattle.language.specs.Signs.{Bytes, ascii}
use Rattle.language.specs.Outcomes
use Rattle.language.specs.declared.built_ins.BuiltIn.{BuiltIn}
use Rattle.language.specs.declared.built_ins.BuiltIn.TheVariants.{Def, Val, Update, Arithmetic, Seq, Size, If, Lock}
use Rattle.language.specs.Definitions.{macro, built_in, Definition, Found, found, missing, same, newest, Change, updates, locks, among}

-- "The built-in names are these fixed byte strings: `DEF`, `VAL`, `UPDATE`, `+`, `-`, `*`, `Quot`, `Rem`."
-- Document 02: `SEQ`, `SIZE` and `IF` "are built-ins under every rule for built-ins"; "LOCK is a built-in".
abbrev pub named : Bytes → BuiltIn → Definition
named n b = record { name = n; content = built_in b }

abbrev pub built_ins : List Definition
built_ins =
    named (ascii "DEF") Def ∷
    named (ascii "VAL") Val ∷
    named (ascii "UPDATE") Update ∷
    named (ascii "+") (Arithmetic Sum) ∷
    named (ascii "-") (Arithmetic Difference) ∷
    named (ascii "*") (Arithmetic Product) ∷
    named (ascii "Quot") (Arithmetic Quotient) ∷
    named (ascii "Rem") (Arithmetic Remainder) ∷
    named (ascii "SEQ") Seq ∷
    named (ascii "SIZE") Size ∷
    named (ascii "IF") If ∷
    named (ascii "LOCK") Lock ∷
    []

-- "VAL needs one parameter, the others two. Surplus parameters are ignored." Document 02: "SEQ and IF need two parameters, SIZE
-- one, by outcome 13." LOCK "has 13 .. as VAL has".
abbrev pub needs : BuiltIn → ℕ
needs Def = 2
needs Val = 1
needs Update = 2
needs (Arithmetic op) = 2
needs Seq = 2
needs Size = 1
needs If = 2
needs Lock = 1

-- parameter r of a call, 0 being its name
abbrev pub parameter : ℕ → List Bytes → Bytes
parameter r list = get_or list r []

-- what an applied call does: the body of definition number k is read; a definition is added; text is given; definition
-- number k is altered where it stands; or a fault
pub data Deed : Type 0 where
  reads : ℕ → Bytes → Deed
  defines : Bytes → Bytes → Deed
  gives : Bytes → Deed
  alters : ℕ → Change → Deed
  faulty : ℕ → Deed

-- DEF. Document 02, Five: "33 .. for an empty name at DEF, after 13 and before anything is defined"
abbrev pub definition_by : Bytes → Bytes → Deed
definition_by [] v = faulty Outcomes.empty_name
definition_by (b ∷ n) v = defines (b ∷ n) v

-- "VAL: 15, 19."
abbrev pub value_of : Found → Deed
value_of missing = faulty Outcomes.not_defined
value_of (found k (built_in b)) = faulty Outcomes.built_in
value_of (found k (macro x)) = gives x.value

-- "For UPDATE: 15 for the name given, 19, 20, 21." Document 02, Nine: "36, a fault of the text, for UPDATE of a locked
-- definition, between 19 and 20"
abbrev pub update_of : List ℕ → Bytes → Found → Deed
update_of reading w missing = faulty Outcomes.not_defined
update_of reading w (found k (built_in b)) = faulty Outcomes.built_in
update_of reading w (found k (macro x)) =
    cond x.locked (faulty Outcomes.locked)
    (cond (among k reading) (faulty Outcomes.body_being_read) (cond (ltb x.room (length w)) (faulty Outcomes.update_too_long) (alters k (updates w))))

abbrev pub result_of : Result ℤ Refusal → Deed
result_of (Ok z) = gives (shortest z)
result_of (Err refusal) = faulty (number_of refusal)

-- Document 02: "`SEQ` gives 1 if its two parameters are the same bytes, else 0."
abbrev pub compared : Bytes → Bytes → Bytes
compared first second = cond (same first second) (ascii "1") (ascii "0")

-- "`IF` takes its parameters in pairs from the left and gives the second of the first pair whose first is exactly `1`, or
-- nothing; an unpaired last one is ignored."
unfoldable pub chosen : List Bytes → Bytes
chosen [] = []
chosen (unpaired ∷ []) = []
chosen (first ∷ second ∷ pairs) = let r = chosen pairs in cond (same first (ascii "1")) second r

-- Document 02, Nine: LOCK "marks the newest definition of that name", "gives no text and has 13, 15 and 19 as VAL has"
abbrev pub lock_of : Found → Deed
lock_of missing = faulty Outcomes.not_defined
lock_of (found k (built_in b)) = faulty Outcomes.built_in
lock_of (found k (macro x)) = alters k locks

-- a built-in that has its parameters, where the definitions ds stand and the bodies `reading` are being read
abbrev pub performed : List ℕ → List Bytes → List Definition → BuiltIn → Deed
performed reading list ds Def = definition_by (parameter 1 list) (parameter 2 list)
performed reading list ds Val = value_of (newest (parameter 1 list) ds)
performed reading list ds Update = update_of reading (parameter 2 list) (newest (parameter 1 list) ds)
performed reading list ds (Arithmetic op) = result_of (calculated op (parameter 1 list) (parameter 2 list))
performed reading list ds Seq = gives (compared (parameter 1 list) (parameter 2 list))
-- "`SIZE` gives the length of its parameter in decimal."
performed reading list ds Size = gives (digits (length (parameter 1 list)))
performed reading list ds If = gives (chosen (drop 1 list))
performed reading list ds Lock = lock_of (newest (parameter 1 list) ds)

-- "Checks at `;`: .. 15, 13, then the built-in's": the call with this name and parameters
abbrev pub deed_of : List ℕ → List Bytes → List Definition → Found → Deed
deed_of reading list ds missing = faulty Outcomes.not_defined
deed_of reading list ds (found k (macro x)) = reads k x.value
deed_of reading list ds (found k (built_in b)) =
    let d = performed reading list ds b in
    cond (ltb (needs b) (length list)) d (faulty Outcomes.not_supplied)

unfoldable pub deed : List ℕ → List Bytes → List Definition → Deed
deed reading list ds = deed_of reading list ds (newest (parameter 0 list) ds)
