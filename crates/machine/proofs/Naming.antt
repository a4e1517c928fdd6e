-- The names of the built-ins and the operands of the arithmetic, as they are read from cells.
use Prim.Native.Nat.{ℕ, ◌+◌, ◌≤◌}
use native.Mathlib.Omega.{arith}
use mathlib.Core.Path.{◌≡◌, refl, ap, ◌∙◌}
use mathlib.Core.Bool.{Bool, true, false, cond}
use mathlib.Core.List.{List, [], ◌∷◌}
use Rattle.std.specs.Prelude.{Option, None}
use lib.ListN.{length, get_or}
use borrow.Author.Tests.{le-leb}
use Rattle.memory.specs.Block.{block, same}
use Rattle.memory.proofs.Blocks.{same_bytes_in}
use Rattle.decimal.specs.declared.operations.Operation.{Operation}
use Rattle.decimal.specs.Operand.{operand}
use Rattle.decimal.specs.Arithmetic.{calculated}
use Rattle.decimal.specs.Answers.{answer_of}
use Rattle.language.specs.declared.built_ins.BuiltIn.{BuiltIn}
use Rattle.language.specs.Signs.{Bytes}
use Rattle.language.specs.Definitions.{Content, macro, built_in, Definition, Found, found, missing, newest, counts, live}
use Rattle.language.specs.Definitions as D
use Rattle.language.specs.Groups.{group, of_group, content_of}
use Rattle.language.proofs.Groups.{group_finds}
use Rattle.language.specs.BuiltIns.{built_ins}
use Rattle.language.specs.Charge.{arguments_price}
use Rattle.language.proofs.Lists.{either}
use Rattle.language.specs.Octets.{Octets}
use Rattle.machine.specs.Walks.{named_as, named_among, built_in_named, operand_at, calculate}
use Rattle.machine.proofs.Finds.{ArgumentAt}
use Rattle.machine.proofs.Fetching.{block-low}

-- What is shown ------------------------------------------------------------------------------------------------------

-- the cell at p is the length of a text, and the cells behind it are the text
pub record TextAt (l : List ℕ) (p : ℕ) (t : Bytes) : Type 0 where
  pub counted : get_or l p 0 ≡ length t
  pub bytes : block (p + 1) (length t) l ≡ t
  pub within : p + 1 + length t ≤ length l

-- an argument of a list that lies within the cells is such a text
pub argument_text : {l : List ℕ} {p k q : ℕ} {args : List Bytes} → ArgumentAt l p args k q → p + arguments_price args ≤ length l → TextAt l q (get_or args k [])
argument_text x h = record { counted = x.counted; bytes = x.bytes; within = omega (arith, x.within) }

-- what the code has for what was found
abbrev pub named_of : Found → Option BuiltIn
named_of missing = None
named_of (found k c) = named_as c

-- which is a matter of the content
named_content : (x y : Found) → content_of x ≡ content_of y → named_of x ≡ named_of y
named_content missing missing e = refl
named_content missing (found j c) e = let z : ◌≡◌ {A = ℕ} 0 1 = cc in absurd (omega arith)
named_content (found k c) missing e = let z : ◌≡◌ {A = ℕ} 0 1 = cc in absurd (omega arith)
named_content (found k c) (found j d) e = let z : c ≡ d = cc in ap named_as z

-- nothing was found, or a built-in
pub data Own : Found → Type 0 where
  unknown : Own missing
  known : (k : ℕ) (b : BuiltIn) → Own (found k (built_in b))

-- Names --------------------------------------------------------------------------------------------------------------

-- the two tests of strings are one
pub same_is : (a b : Bytes) → same a b ≡ D.same a b
unfolding same D.same
same_is [] [] = refl
same_is [] (y ∷ b) = refl
same_is (x ∷ a) [] = refl
same_is (x ∷ a) (y ∷ b) = rw (same_is a b)

-- the name of a choice is a choice of names
named_of-cond : (b : Bool) (x y : Found) → cond b (named_of x) (named_of y) ≡ named_of (cond b x y)
named_of-cond true x y = refl
named_of-cond false x y = refl

-- the first definition with a name is the newest
first_is : {l : List ℕ} {p : ℕ} {t : Bytes} → TextAt l p t → (ds : List Definition) → named_among l p ds ≡ named_of (newest t ds)
unfolding named_among newest
first_is h [] = refl
first_is {l} {p} {t} h (d ∷ ds) =
    rw (h.counted, same_bytes_in (p + 1) (length t) d.name l h.within, h.bytes, same_is t d.name, first_is h ds)
    (named_of-cond (D.same t d.name) (found (length ds) d.content) (newest t ds))

-- a content that is not counted is a built-in
content_own : (k : ℕ) (c : Content) → counts c ≡ 0 → Own (found k c)
content_own k (macro x) e = absurd (omega arith)
content_own k (built_in b) e = known k b

-- among definitions that are not counted only a built-in is found
own_of : (t : Bytes) (ds : List Definition) → live ds ≡ 0 → Own (newest t ds)
unfolding newest live
own_of t [] e = unknown
own_of t (d ∷ ds) e = either Own (D.same t d.name) (content_own (length ds) d.content (omega arith)) (own_of t ds (omega arith))

-- The results --------------------------------------------------------------------------------------------------------

-- of the built-ins only a built-in is found
pub built_ins_only : (t : Bytes) → Own (newest t built_ins)
unfolding live
built_ins_only t = own_of t built_ins refl

-- the code finds the built-in that has the name in the cells
pub built_in_named_is : {l : List ℕ} {name : ℕ} {t : Bytes} → TextAt l name t → built_in_named l name ≡ named_of (newest t built_ins)
built_in_named_is {t = t} h = rw (h.counted, h.bytes) (first_is h (of_group (group t) built_ins) ∙ named_content (newest t (of_group (group t) built_ins)) (newest t built_ins) (group_finds t built_ins))

-- the code reads the operand in the cells
pub operand_at_is : {l : List ℕ} {p : ℕ} {t : Bytes} → TextAt l p t → Octets t → operand_at l p ≡ operand t
operand_at_is {l} {p} {t} h os =
    rw (h.counted, le-leb (p + 1 + length t) (length l) h.within, block-low (p + 1) t l h.bytes os)

-- the code calculates what the operation gives for the two texts
pub calculate_is : (op : Operation) {l : List ℕ} {first second : ℕ} {t₁ t₂ : Bytes}
    → TextAt l first t₁ → Octets t₁ → TextAt l second t₂ → Octets t₂
    → calculate op l first second ≡ answer_of (calculated op t₁ t₂)
calculate_is op h₁ o₁ h₂ o₂ = rw (operand_at_is h₁ o₁, operand_at_is h₂ o₂)
