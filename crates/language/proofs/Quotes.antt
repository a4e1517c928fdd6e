-- Document 01, Quotes: "Every collected string so has matched quotes: a body never shows an unquoted `>` and never ends
-- inside quotes, which is to be shown."
use Rattle.std.specs.Prelude.{ℤ, Result}
use Prim.Native.Nat.{ℕ, zero, suc, pred, ◌<◌, ◌+◌, ◌-◌, ◌/◌, ◌%◌}
use native.Mathlib.Omega.{arith}
use native.Mathlib.Nat.{mod-lt}
use mathlib.Core.Path.{◌≡◌, refl, sym, ◌∙◌, ap, subst}
use mathlib.Core.Bool.{Bool, true, false, cond, ◌&&◌}
use mathlib.Core.List.{List, [], ◌∷◌, ◌++◌}
use Rattle.std.specs.Prelude.{Option, None, Some}
use Rattle.std.specs.Prelude.{option_and_then}
use lib.ListN.{length}
use lib.Dec.{leb, ltb, eqb}
use lib.IntN.{ℤ, pos, negsuc}
use borrow.Author.Tests.{ltb-true, leb-true}
use Rattle.decimal.specs.declared.operations.Operation.{Operation}
use Rattle.decimal.specs.declared.operations.Refusal.{Refusal}
use Rattle.decimal.specs.Operand.{operand, in_range}
use Rattle.decimal.specs.Arithmetic.{divides, is_zero, exact, of_operands}
use Rattle.decimal.specs.Shortest.{digits_of, shortest}
use Rattle.language.specs.declared.signs.Sign.{Sign}
use Rattle.language.specs.declared.signs.Sign.TheVariants.{Plain, Dollar, Comma, Semicolon, Tilde, Quote, Unquote}
use Rattle.language.specs.Signs.{Bytes, Table, sign_of, Meaning, copied, left_out, opens, separates, applies, fetches, unquotes, outside, inside, meaning, parameter_digit, parameter_number, language}
use Rattle.language.specs.Outcomes
use Rattle.language.specs.Outcomes.{finishes}
use Rattle.language.specs.Refusals.{is_reserved, AcceptedTable}
use Rattle.language.specs.declared.built_ins.BuiltIn.{BuiltIn}
use Rattle.language.specs.declared.built_ins.BuiltIn.TheVariants.{Def, Val, Update, Arithmetic, Seq, Size, If, Lock}
use Rattle.language.specs.Definitions.{Content, macro, built_in, Definition, Found, found, missing, same, newest, Change, updates, locks, changed, altered, oldest, without, among, counts}
use Rattle.language.specs.BuiltIns.{Deed, reads, defines, gives, alters, faulty, built_ins, needs, parameter, value_of, update_of, result_of, lock_of, performed, deed_of, deed}
use Rattle.language.specs.Charge.{open_price, end_price}
use Rattle.language.specs.Ends.{End}
use Rattle.language.specs.Scanning.{Call, Body, Standing, State, Step, next, stop, ends, noting, with_rest, Limits, list_of, reading, scan, scans, start, end_of, run}
use Rattle.language.specs.Scanning as S
use Rattle.language.specs.Matched.{depth_by, depth_after, Matched, All, empty, with, Innermost, CallMatches, BodyMatches, ContentMatches, ValueMatches, depth_written, QuotesMatch}
use Rattle.language.proofs.Accepted.{digit_reserved, letter_reserved, accepted_plain}
use Rattle.language.proofs.Lists.{either, all_append, all_take, all_drop, all_get_d, all_chosen, by_definition, every, all_by}

-- Every element ------------------------------------------------------------------------------------------------------

module _ {A : Type 0} (P : ℕ → A → Type 0) where
  -- outside of quotes the innermost is as the others
  all_of : (xs : List A) → Innermost P 0 xs → All (P 0) xs
  all_of [] p = empty
  all_of (x ∷ xs) p = with p.0 p.1

  -- and so, where one is gone, the next is the innermost
  of_all : {xs : List A} → All (P 0) xs → Innermost P 0 xs
  of_all empty = tt
  of_all (with p ps) = (p, ps)

-- the bytes of built-in names, of numbers and of parameters after `~` are no signs
abbrev ReservedPlain : Table → Type 0
ReservedPlain T = (b : ℕ) → is_reserved b ≡ true → sign_of T b ≡ Plain

-- Depths -------------------------------------------------------------------------------------------------------------

-- a depth that is lost is no depth
pub none_some : {n : ℕ} → None ≡ Some n → ⊥
none_some e = let z : ◌≡◌ {A = ℕ} 0 1 = cc in omega arith

-- a test that fails does not pass
false-true : false ≡ true → ⊥
false-true e = let z : ◌≡◌ {A = ℕ} 0 1 = cc in omega arith

module _ (T : Table) where
  -- what is read behind bytes is read from the depth after them
  depth_append : (q k : ℕ) (a b : Bytes) → depth_after T q a ≡ Some k → depth_after T q (a ++ b) ≡ depth_after T k b
  unfolding depth_after
  depth_append q k [] b e = let h : q ≡ k = cc in rw h
  depth_append q k (x ∷ a) b e = go (depth_by (sign_of T x) q) (λ m. depth_append m k a b) e
    where
      go : (d : Option ℕ) → ((m : ℕ) → depth_after T m a ≡ Some k → depth_after T m (a ++ b) ≡ depth_after T k b)
          → option_and_then (λ m. depth_after T m a) d ≡ Some k → option_and_then (λ m. depth_after T m (a ++ b)) d ≡ depth_after T k b
      go None f e = absurd (none_some e)
      go (Some m) f e = f m e

  -- the depth after one byte
  depth_one : (q b : ℕ) → depth_after T q (b ∷ []) ≡ depth_by (sign_of T b) q
  unfolding depth_after
  depth_one q b = go (depth_by (sign_of T b) q)
    where
      go : (d : Option ℕ) → option_and_then Some d ≡ d
      go None = refl
      go (Some k) = refl

  -- a plain byte leaves the depth
  depth_plain : (q b : ℕ) (bs : Bytes) → sign_of T b ≡ Plain → depth_after T q (b ∷ bs) ≡ depth_after T q bs
  unfolding depth_after
  depth_plain q b bs e = ap (λ (g : Sign). option_and_then (λ k. depth_after T k bs) (depth_by g q)) e

  -- an empty string
  matched-empty : Matched T []
  unfolding depth_after
  matched-empty = refl

  -- where nothing is left to read, nothing is open
  depth_empty : (q k : ℕ) → depth_after T q [] ≡ Some k → q ≡ k
  unfolding depth_after
  depth_empty q k e = cc

-- a byte with sign g that is read at depth q leads to depth d, and what that is in what is collected, by its meaning
data Means (g : Sign) : ℕ → Option ℕ → Meaning → Type 0 where
  copying : {q k : ℕ} → depth_by g (pred q) ≡ Some (pred k) → Means g q (Some k) (copied k)
  leaving : {q k : ℕ} → pred q ≡ pred k → Means g q (Some k) (left_out k)
  opening : Means g 0 (Some 0) opens
  separating : depth_by g 0 ≡ Some 0 → Means g 0 (Some 0) separates
  applying : depth_by g 0 ≡ Some 0 → Means g 0 (Some 0) applies
  fetching : depth_by g 0 ≡ Some 0 → Means g 0 (Some 0) fetches
  unquoting : Means g 0 None unquotes

-- the meaning of every sign fits, outside of quotes and inside
means_outside : (g : Sign) → Means g 0 (depth_by g 0) (outside g)
means_outside Plain = copying refl
means_outside Dollar = opening
means_outside Comma = separating refl
means_outside Semicolon = applying refl
means_outside Tilde = fetching refl
means_outside Quote = leaving refl
means_outside Unquote = unquoting

means_inside : (q : ℕ) (g : Sign) → Means g (suc q) (depth_by g (suc q)) (inside q g)
means_inside q Plain = copying refl
means_inside q Dollar = copying refl
means_inside q Comma = copying refl
means_inside q Semicolon = copying refl
means_inside q Tilde = copying refl
means_inside q Quote = copying refl
means_inside zero Unquote = leaving refl
means_inside (suc q) Unquote = copying refl

means : (T : Table) (q b : ℕ) → Means (sign_of T b) q (depth_by (sign_of T b) q) (meaning T q b)
unfolding meaning
means T zero b = means_outside (sign_of T b)
means T (suc q) b = means_inside q (sign_of T b)

-- Definitions and deeds ----------------------------------------------------------------------------------------------

module _ (T : Table) where
  -- what `newest` finds
  abbrev FoundMatches : Found → Type 0
  FoundMatches missing = Unit {0}
  FoundMatches (found k c) = ContentMatches T c

  -- a value that is found is one of the values
  newest_matches : (n : Bytes) {ds : List Definition} → All (ValueMatches T) ds → FoundMatches (newest n ds)
  unfolding newest
  newest_matches n empty = tt
  newest_matches n (with {x = d} v vs) = either FoundMatches (same n d.name) v (newest_matches n vs)

  -- UPDATE with a matched value, and LOCK
  abbrev ChangeMatches : Change → Type 0
  ChangeMatches (updates v) = Matched T v
  ChangeMatches locks = Unit {0}

  changed_matches : (h : Change) → ChangeMatches h → (c : Content) → ContentMatches T c → ContentMatches T (changed h c)
  changed_matches (updates v) m (macro x) p = m
  changed_matches locks m (macro x) p = p
  changed_matches h m (built_in b) p = tt

  altered_matches : (k : ℕ) (h : Change) → ChangeMatches h → {ds : List Definition} → All (ValueMatches T) ds
      → All (ValueMatches T) (altered k h ds)
  unfolding altered
  altered_matches k h m empty = empty
  altered_matches k h m (with {x = d} {xs = ds} c cs) =
      either (All (ValueMatches T)) (eqb k (length ds)) (with (changed_matches h m d.content c) cs) (with c (altered_matches k h m cs))

  -- the definitions that stood when there were n, and all but those made between n and m
  oldest_matches : (n : ℕ) {ds : List Definition} → All (ValueMatches T) ds → All (ValueMatches T) (oldest n ds)
  oldest_matches n {ds} D = all_drop (length ds - n) D

  without_matches : (n m : ℕ) {ds : List Definition} → All (ValueMatches T) ds → All (ValueMatches T) (without n m ds)
  without_matches n m {ds} D = all_append (all_take (length ds - m) D) (oldest_matches n D)

  -- what a call does: its strings are matched, and a fault is no finish
  abbrev DeedMatches : Deed → Type 0
  DeedMatches (reads k v) = Matched T v
  DeedMatches (defines n v) = Matched T v
  DeedMatches (gives bs) = Matched T bs
  DeedMatches (alters k h) = ChangeMatches h
  DeedMatches (faulty n) = finishes n ≡ false

  -- VAL
  value_matches : (f : Found) → FoundMatches f → DeedMatches (value_of f)
  value_matches missing m = refl
  value_matches (found k (macro x)) m = m
  value_matches (found k (built_in b)) m = refl

  -- UPDATE
  update_matches : (ks : List ℕ) (w : Bytes) → Matched T w → (f : Found) → DeedMatches (update_of ks w f)
  update_matches ks w m missing = refl
  update_matches ks w m (found k (macro x)) = either DeedMatches x.locked refl (either DeedMatches (among k ks) refl (either DeedMatches (ltb x.room (length w)) refl m))
  update_matches ks w m (found k (built_in b)) = refl

  -- LOCK
  lock_matches : (f : Found) → DeedMatches (lock_of f)
  lock_matches missing = refl
  lock_matches (found k (macro x)) = tt
  lock_matches (found k (built_in b)) = refl

  module _ (plainly : ReservedPlain T) where
    -- a byte that stands for a parameter is no sign
    number_plain : (b k : ℕ) → parameter_number b ≡ Some k → sign_of T b ≡ Plain
    number_plain b k = by_letter (leb 97 b) refl (leb b 122) refl
      where
        by_digit : (x : Bool) → leb 48 b ≡ x → (y : Bool) → leb b 57 ≡ y → cond (x && y) (Some (b - 48)) None ≡ Some k → sign_of T b ≡ Plain
        by_digit true p true p' e = plainly b (digit_reserved b (leb-true 48 b p) (leb-true b 57 p'))
        by_digit true p false p' e = absurd (none_some e)
        by_digit false p y p' e = absurd (none_some e)

        by_letter : (x : Bool) → leb 97 b ≡ x → (y : Bool) → leb b 122 ≡ y
            → cond (x && y) (Some (b - 97 + 10)) (parameter_digit b) ≡ Some k → sign_of T b ≡ Plain
        by_letter true p true p' e = plainly b (letter_reserved b (leb-true 97 b p) (leb-true b 122 p'))
        by_letter true p false p' e = by_digit (leb 48 b) refl (leb b 57) refl e
        by_letter false p y p' e = by_digit (leb 48 b) refl (leb b 57) refl e

    -- one digit
    digit_matched : (d : ℕ) → d < 10 → Matched T ((48 + d) ∷ [])
    digit_matched d h = depth_plain T 0 (48 + d) [] (plainly (48 + d) (digit_reserved (48 + d) (omega arith) (omega arith))) ∙ matched-empty T

    -- digits
    digits-matched : (more n : ℕ) → Matched T (digits_of more n)
    unfolding digits_of
    digits-matched zero n = digit_matched (n % 10) (mod-lt n (omega arith))
    digits-matched (suc more) n = go (ltb n 10) refl (digits-matched more (n / 10))
      where
        go : (t : Bool) → ltb n 10 ≡ t → Matched T (digits_of more (n / 10))
            → Matched T (elim t [ true ↦ (48 + n) ∷ [] | false ↦ digits_of more (n / 10) ++ ((48 + n % 10) ∷ []) ])
        go true e m = digit_matched n (ltb-true n 10 e)
        go false e m =
            depth_append T 0 0 (digits_of more (n / 10)) ((48 + n % 10) ∷ []) m ∙ digit_matched (n % 10) (mod-lt n (omega arith))

    -- a result of arithmetic
    shortest-matched : (z : ℤ) → Matched T (shortest z)
    shortest-matched (pos n) = digits-matched n n
    shortest-matched (negsuc n) = depth_plain T 0 45 (digits_of (suc n) (suc n)) (plainly 45 refl) ∙ digits-matched (suc n) (suc n)

    -- arithmetic gives a decimal or one of its own outcomes
    result_matches : (op : Operation) (a b : Option ℤ) → DeedMatches (result_of (of_operands op a b))
    result_matches op None b = refl
    result_matches op (Some a) None = refl
    result_matches op (Some a) (Some b) =
        either given (divides op && is_zero b) refl (either given (in_range (exact op a b)) (shortest-matched (exact op a b)) refl)
      where
        given : Result ℤ Refusal → Type 0
        given r = DeedMatches (result_of r)

    module _ (ks : List ℕ) (list : List Bytes) (ds : List Definition) (P : All (Matched T) list) (D : All (ValueMatches T) ds) where
      -- a parameter, or the empty string where it is not supplied
      parameter_matches : (r : ℕ) → Matched T (parameter r list)
      parameter_matches r = all_get_d [] (matched-empty T) P r

      -- each built-in
      performed_matches : (b : BuiltIn) → DeedMatches (performed ks list ds b)
      performed_matches Def = by_definition DeedMatches (parameter 1 list) (parameter 2 list) refl (λ name. parameter_matches 2)
      performed_matches Val = value_matches (newest (parameter 1 list) ds) (newest_matches (parameter 1 list) D)
      performed_matches Update = update_matches ks (parameter 2 list) (parameter_matches 2) (newest (parameter 1 list) ds)
      performed_matches (Arithmetic op) = result_matches op (operand (parameter 1 list)) (operand (parameter 2 list))
      performed_matches Seq = either (Matched T) (same (parameter 1 list) (parameter 2 list)) (digit_matched 1 (omega arith)) (digit_matched 0 (omega arith))
      performed_matches Size = digits-matched _ _
      performed_matches If = all_chosen (matched-empty T) (all_drop 1 P)
      performed_matches Lock = lock_matches (newest (parameter 1 list) ds)

      -- by what the name is found to be
      deed_of_matches : (f : Found) → FoundMatches f → DeedMatches (deed_of ks list ds f)
      deed_of_matches missing m = refl
      deed_of_matches (found k (macro x)) m = m
      deed_of_matches (found k (built_in b)) m = either DeedMatches (ltb (needs b) (length list)) (performed_matches b) refl

      -- what a call with a matched list does, where the definitions are matched
      deed_matches : DeedMatches (deed ks list ds)
      unfolding deed
      deed_matches = deed_of_matches (newest (parameter 0 list) ds) (newest_matches (parameter 0 list) D)

-- One scan -----------------------------------------------------------------------------------------------------------

-- a state by its parts
abbrev state_of : Bytes → ℕ → List Call → List Body → Standing → State
state_of t q cs Bs w = record { text = t; quotes = q; calls = cs; bodies = Bs; standing = w }

-- an end of a state with this output: it has that output, which is matched if the run finishes
record EndMatches (T : Table) (out : Bytes) (e : End) : Type 0 where
  unchanged : e.output ≡ out
  matched : finishes e.outcome ≡ true → Matched T e.output

-- what a scan of a state with this output comes to
abbrev Kept : Table → Bytes → Step → Type 0
Kept T out (next s) = QuotesMatch T s
Kept T out (stop e) = EndMatches T out e

-- what a rule makes of a state that is matched
abbrev Keeps : Table → (State → Step) → State → Type 0
Keeps T rule s = QuotesMatch T s → Kept T s.standing.output (rule s)

-- the bodies when the byte taken from the innermost leads to depth d, which is none only in the text
abbrev BodiesLeft : Table → Option ℕ → List Body → Type 0
BodiesLeft T None [] = Unit {0}
BodiesLeft T None (B ∷ Bs) = ⊥
BodiesLeft T (Some k) Bs = Innermost (BodyMatches T) k Bs

module _ (T : Table) where
  -- a state from its parts
  matches : {t : Bytes} {q : ℕ} {cs : List Call} {Bs : List Body} {w : Standing}
      → Innermost (CallMatches T) q cs → depth_after T 0 w.output ≡ Some (depth_written q cs)
      → Innermost (BodyMatches T) q Bs → All (ValueMatches T) w.definitions → QuotesMatch T (state_of t q cs Bs w)
  matches C O R D = record { calls = C; output = O; bodies = R; values = D }

  -- outside of quotes the output is matched, whether a call is open or not
  output_matches : (out : Bytes) (cs : List Call) → depth_after T 0 out ≡ Some (depth_written 0 cs) → Matched T out
  output_matches out [] O = O
  output_matches out (c ∷ cs) O = O

  -- and back
  matches_output : (out : Bytes) (cs : List Call) → Matched T out → depth_after T 0 out ≡ Some (depth_written 0 cs)
  matches_output out [] O = O
  matches_output out (c ∷ cs) O = O

  -- the name and parameters of a call that is applied
  list_matches : (c : Call) → CallMatches T 0 c → All (Matched T) (list_of c)
  list_matches c m = all_append m.ended (with m.hand empty)

  -- what is left of the bodies when a byte is taken from the innermost
  taken : (q b : ℕ) (r : Bytes) (B : Body) (Bs : List Body) → depth_after T q (b ∷ r) ≡ Some 0
      → All (Matched T) B.list → All (BodyMatches T 0) Bs → BodiesLeft T (depth_by (sign_of T b) q) (with_rest r B ∷ Bs)
  unfolding depth_after
  taken q b r B Bs e P R = go (depth_by (sign_of T b) q) e
    where
      go : (d : Option ℕ) → option_and_then (λ k. depth_after T k r) d ≡ Some 0 → BodiesLeft T d (with_rest r B ∷ Bs)
      go None e = none_some e
      go (Some k) e = (record { list = P; rest = e }, R)

  -- in the text no body is left
  untaken : (d : Option ℕ) → BodiesLeft T d []
  untaken None = tt
  untaken (Some k) = tt

  -- an end that is no finish
  refused : (n : ℕ) (s : State) → finishes n ≡ false → Kept T s.standing.output (ends n s)
  refused n s e = record { unchanged = refl; matched = λ f. absurd (false-true (sym e ∙ f)) }

module _ (L : Limits) (T : Table) (plainly : ReservedPlain T) where
  -- within the cells lent, or refused
  charged : (n : ℕ) (s : State) (go : State → Step) → ((m : ℕ) → Kept T s.standing.output (go (noting m s)))
      → Kept T s.standing.output (S.charging L n s go)
  charged n s go h =
      either (Kept T s.standing.output) (S.allows L.cells (S.charge s + n)) (h (S.charge s + n))
      (refused T Outcomes.no_cells_left s refl)

  -- within the output lent, or refused
  written : (bs : Bytes) (s : State) (go : State → Step) → Kept T s.standing.output (go (S.with_output (s.standing.output ++ bs) s))
      → Kept T s.standing.output (S.writing L bs s go)
  written bs s go h =
      either (Kept T s.standing.output) (S.allows L.output (length s.standing.output + length bs)) h
      (refused T Outcomes.no_output_left s refl)

  module _ (t : Bytes) (Bs : List Body) (w : Standing) where
    -- bytes that lead from what was copied at depth q to what is copied at depth k
    put_keeps : (bs : Bytes) (q k : ℕ) (cs : List Call) → depth_after T (pred q) bs ≡ Some (pred k)
        → Innermost (CallMatches T) q cs → depth_after T 0 w.output ≡ Some (depth_written q cs)
        → Innermost (BodyMatches T) k Bs → All (ValueMatches T) w.definitions
        → Kept T w.output (S.put L bs (state_of t k cs Bs w))
    put_keeps bs q k [] e C O R D =
        written bs (state_of t k [] Bs w) next (matches T tt (depth_append T 0 (pred q) w.output bs O ∙ e) R D)
    put_keeps bs q k (c ∷ cs) e C O R D =
        charged (length bs) (state_of t k (c ∷ cs) Bs w) (λ s. next (S.with_calls (S.with_hand (c.hand ++ bs) c ∷ cs) s))
        (λ m. matches T (record { ended = C.0.ended; hand = depth_append T 0 (pred q) c.hand bs C.0.hand ∙ e }, C.1) O R D)

    -- matched bytes, outside of quotes
    put-outside : (bs : Bytes) (cs : List Call) → Matched T bs → Keeps T (S.put L bs) (state_of t 0 cs Bs w)
    put-outside bs cs m g = put_keeps bs 0 0 cs m g.calls g.output g.bodies g.values

    -- `$`
    open_keeps : (cs : List Call) → Keeps T (S.open_call L) (state_of t 0 cs Bs w)
    open_keeps cs g =
        charged open_price (state_of t 0 cs Bs w) (λ s. next (S.with_calls (S.new_call s ∷ s.calls) s))
        (λ m. matches T (record { ended = empty; hand = matched-empty T }, all_of (CallMatches T) cs g.calls)
        (output_matches T w.output cs g.output) g.bodies g.values)

    -- `,`
    separate_keeps : (b : ℕ) (cs : List Call) → Matched T (b ∷ []) → Keeps T (S.separate L cs b) (state_of t 0 cs Bs w)
    separate_keeps b [] m g = put-outside (b ∷ []) [] m g
    separate_keeps b (c ∷ cs) m g =
        charged end_price (state_of t 0 (c ∷ cs) Bs w) (λ s. next (S.with_calls (S.separated c ∷ cs) s))
        (λ n. matches T (record { ended = list_matches T c g.calls.0; hand = matched-empty T }, g.calls.1)
        g.output g.bodies g.values)

    -- the result of a built-in
    give_keeps : (bs : Bytes) (c : Call) (cs : List Call) → Matched T bs → Keeps T (S.give L cs c bs) (state_of t 0 (c ∷ cs) Bs w)
    give_keeps bs c [] m g =
        written bs (state_of t 0 (c ∷ []) Bs w)
        (λ s. next (S.with_calls [] (S.with_definitions (oldest c.stood s.standing.definitions) s)))
        (matches T tt (depth_append T 0 0 w.output bs g.output ∙ m) g.bodies (oldest_matches T c.stood g.values))
    give_keeps bs c (outer ∷ cs) m g = go g.calls.1
      where
        go : All (CallMatches T 0) (outer ∷ cs) → Kept T w.output (S.give L (outer ∷ cs) c bs (state_of t 0 (c ∷ outer ∷ cs) Bs w))
        go (with o os) =
            charged (end_price + length bs) (state_of t 0 (c ∷ outer ∷ cs) Bs w)
            (λ s. next (S.with_calls (S.with_hand (outer.hand ++ bs) outer ∷ cs)
            (S.with_definitions (oldest c.stood s.standing.definitions) s)))
            (λ n. matches T (record { ended = o.ended; hand = depth_append T 0 0 outer.hand bs o.hand ∙ m }, os)
            g.output g.bodies (oldest_matches T c.stood g.values))

    -- an applied call, by what it does
    perform_keeps : (d : Deed) (c : Call) (cs : List Call) → DeedMatches T d → Keeps T (S.perform L d c cs) (state_of t 0 (c ∷ cs) Bs w)
    perform_keeps (reads k v) c cs m g =
        matches T (of_all (CallMatches T) g.calls.1) (matches_output T w.output cs g.output)
        (record { list = list_matches T c g.calls.0; rest = m }, all_of (BodyMatches T) Bs g.bodies) g.values
    perform_keeps (defines n v) c cs m g =
        matches T (of_all (CallMatches T) g.calls.1) (matches_output T w.output cs g.output) g.bodies
        (with m (oldest_matches T c.stood g.values))
    perform_keeps (gives bs) c cs m g = give_keeps bs c cs m g
    perform_keeps (alters k h) c cs m g =
        matches T (of_all (CallMatches T) g.calls.1) (matches_output T w.output cs g.output) g.bodies
        (oldest_matches T c.stood (altered_matches T k h m g.values))
    perform_keeps (faulty n) c cs m g = refused T n (state_of t 0 (c ∷ cs) Bs w) m

  module _ (t : Bytes) (w : Standing) where
    -- `;` with a call open
    innermost_keeps : (cs : List Call) (Bs : List Body) → Keeps T (S.apply_innermost L cs) (state_of t 0 cs Bs w)
    innermost_keeps [] Bs g = refused T Outcomes.applies_nothing (state_of t 0 [] Bs w) refl
    innermost_keeps (c ∷ cs) Bs g =
        charged end_price (state_of t 0 (c ∷ cs) Bs w)
        (λ s. S.perform L (deed (reading s.bodies) (list_of c) s.standing.definitions) c cs s)
        (λ m. perform_keeps t Bs (noting m (state_of t 0 (c ∷ cs) Bs w)).standing (deed (reading Bs) (list_of c) w.definitions) c cs
        (deed_matches T plainly (reading Bs) (list_of c) w.definitions (list_matches T c g.calls.0) g.values)
        (matches T g.calls g.output g.bodies g.values))

    -- `;`
    apply_keeps : (own : Bool) (b : ℕ) (cs : List Call) (Bs : List Body) → Matched T (b ∷ [])
        → Keeps T (S.apply L own b) (state_of t 0 cs Bs w)
    apply_keeps true b cs Bs m g = innermost_keeps cs Bs g
    apply_keeps false b cs [] m g = put-outside t [] w (b ∷ []) cs m g
    apply_keeps false b cs (B ∷ Bs) m g = refused T Outcomes.applies_nothing (state_of t 0 cs (B ∷ Bs) w) refl

    -- a parameter that is fetched
    supplied_keeps : (o : Bool) (p : Bytes) (cs : List Call) (Bs : List Body) → Matched T p
        → Keeps T (S.fetch_supplied L o p) (state_of t 0 cs Bs w)
    supplied_keeps true p cs Bs m g = put-outside t Bs w p cs m g
    supplied_keeps false p cs Bs m g = refused T Outcomes.not_supplied (state_of t 0 cs Bs w) refl

    -- the byte behind `~`: where it stands for a parameter it is no sign, so the rest of the body stays matched
    number_keeps : (b : ℕ) (r : Bytes) (cs : List Call) (B : Body) (Bs : List Body) → Matched T (b ∷ r)
        → QuotesMatch T (state_of t 0 cs (B ∷ Bs) w)
        → Kept T w.output (S.fetch_number L (parameter_number b) B.list (state_of t 0 cs (with_rest r B ∷ Bs) w))
    number_keeps b r cs B Bs e g = go (parameter_number b) refl
      where
        go : (j : Option ℕ) → parameter_number b ≡ j → Kept T w.output (S.fetch_number L j B.list (state_of t 0 cs (with_rest r B ∷ Bs) w))
        go None p = refused T Outcomes.fetches_nothing (state_of t 0 cs (with_rest r B ∷ Bs) w) refl
        go (Some k) p =
            let same-depth = depth_plain T 0 b r (number_plain T plainly b k p) in
            supplied_keeps (ltb k (length B.list)) (parameter k B.list) cs (with_rest r B ∷ Bs)
            (all_get_d [] (matched-empty T) g.bodies.0.list k)
            (matches T g.calls g.output (record { list = g.bodies.0.list; rest = sym same-depth ∙ e }, g.bodies.1) g.values)

    -- `~`
    fetch_keeps : (b : ℕ) (cs : List Call) (Bs : List Body) → Matched T (b ∷ []) → Keeps T (S.fetch L (language T) Bs b) (state_of t 0 cs Bs w)
    fetch_keeps b [] [] m g = put-outside t [] w (b ∷ []) [] m g
    fetch_keeps b (c ∷ cs) [] m g = refused T Outcomes.parameter_in_text (state_of t 0 (c ∷ cs) [] w) refl
    fetch_keeps b cs (B ∷ Bs) m g = go B.rest g.bodies.0.rest
      where
        go : (r : Bytes) → Matched T r → Kept T w.output (S.fetch_in_body L (language T) r B Bs (state_of t 0 cs (B ∷ Bs) w))
        go [] e = refused T Outcomes.fetches_nothing (state_of t 0 cs (B ∷ Bs) w) refl
        go (x ∷ r) e = number_keeps x r cs B Bs e g

    -- an unquoted `>`, which is not in a body
    unquote_keeps : (b : ℕ) (cs : List Call) (Bs : List Body) → BodiesLeft T None Bs → depth_after T 0 w.output ≡ Some (depth_written 0 cs)
        → Kept T w.output (S.unquote L Bs cs b (state_of t 0 cs Bs w))
    unquote_keeps b [] [] R O = record { unchanged = refl; matched = λ f. O }
    unquote_keeps b (c ∷ cs) [] R O = refused T Outcomes.quote_in_call (state_of t 0 (c ∷ cs) [] w) refl
    unquote_keeps b cs (B ∷ Bs) R O = absurd R

    -- a byte that was taken at depth q: the bodies have moved on, what is collected has not
    byte_keeps : {q : ℕ} {d : Option ℕ} {m : Meaning} (b : ℕ) (cs : List Call) (Bs : List Body) → Means (sign_of T b) q d m
        → Innermost (CallMatches T) q cs → depth_after T 0 w.output ≡ Some (depth_written q cs)
        → BodiesLeft T d Bs → All (ValueMatches T) w.definitions
        → Kept T w.output (S.byte L (language T) m b (state_of t q cs Bs w))
    byte_keeps b cs Bs (copying {q} {k} e) C O R D = put_keeps t Bs w (b ∷ []) q k cs (depth_one T (pred q) b ∙ e) C O R D
    byte_keeps b [] Bs (leaving e) C O R D = matches T tt (O ∙ ap Some e) R D
    byte_keeps b (c ∷ cs) Bs (leaving e) C O R D = matches T (record { ended = C.0.ended; hand = C.0.hand ∙ ap Some e }, C.1) O R D
    byte_keeps b cs Bs opening C O R D = open_keeps t Bs w cs (matches T C O R D)
    byte_keeps b cs Bs (separating e) C O R D = separate_keeps t Bs w b cs (depth_one T 0 b ∙ e) (matches T C O R D)
    byte_keeps b cs Bs (applying e) C O R D =
        apply_keeps (S.own_call (state_of t 0 cs Bs w)) b cs Bs (depth_one T 0 b ∙ e) (matches T C O R D)
    byte_keeps b cs Bs (fetching e) C O R D = fetch_keeps b cs Bs (depth_one T 0 b ∙ e) (matches T C O R D)
    byte_keeps b cs Bs unquoting C O R D = unquote_keeps b cs Bs R O

    -- the end of the text
    text_end_keeps : (q : ℕ) (cs : List Call) → Keeps T (S.text_end L q cs) (state_of t q cs [] w)
    text_end_keeps (suc q) cs g = refused T Outcomes.text_in_quotes (state_of t (suc q) cs [] w) refl
    text_end_keeps zero (c ∷ cs) g = refused T Outcomes.text_in_call (state_of t 0 (c ∷ cs) [] w) refl
    text_end_keeps zero [] g = record { unchanged = refl; matched = λ f. g.output }

    -- the end of a body, which is outside of quotes
    body_end_keeps : (own : Bool) (q : ℕ) (cs : List Call) (B : Body) (Bs : List Body) → q ≡ 0
        → Keeps T (S.body_end L own B Bs) (state_of t q cs (B ∷ Bs) w)
    body_end_keeps true q cs B Bs e g = refused T Outcomes.body_in_call (state_of t q cs (B ∷ Bs) w) refl
    body_end_keeps false q cs B Bs e g =
        matches T (subst (λ (k : ℕ). Innermost (CallMatches T) k cs) e g.calls) (rw e at g).output
        (of_all (BodyMatches T) g.bodies.1) (without_matches T B.opened B.applied g.values)

  -- by where the byte comes from
  from_keeps : (t : Bytes) (q : ℕ) (cs : List Call) (Bs : List Body) (w : Standing) → Keeps T (S.from L (language T) Bs t) (state_of t q cs Bs w)
  from_keeps [] q cs [] w g =
      text_end_keeps [] (S.counting 0 (state_of [] q cs [] w)).standing q cs (matches T g.calls g.output tt g.values)
  from_keeps (b ∷ t) q cs [] w g =
      byte_keeps t (S.counting 1 (state_of t q cs [] w)).standing b cs [] (means T q b) g.calls g.output
      (untaken T (depth_by (sign_of T b) q)) g.values
  from_keeps t q cs (B ∷ Bs) w g = go B.rest g.bodies.0.rest
    where
      s : State
      s = S.counting 0 (state_of t q cs (B ∷ Bs) w)

      go : (r : Bytes) → depth_after T q r ≡ Some 0 → Kept T w.output (S.from_body L (language T) r B Bs (state_of t q cs (B ∷ Bs) w))
      go [] e =
          body_end_keeps t s.standing (S.own_call s) q cs B Bs (depth_empty T q 0 e)
          (matches T g.calls g.output g.bodies g.values)
      go (b ∷ r) e =
          byte_keeps t s.standing b cs (with_rest r B ∷ Bs) (means T q b) g.calls g.output
          (taken T q b r B Bs e g.bodies.0.list g.bodies.1) g.values

  -- one scan
  scan_keeps : (s : State) → Keeps T (scan L (language T)) s
  unfolding scan
  scan_keeps s g = from_keeps s.text s.quotes s.calls s.bodies s.standing g

  -- any number of scans: an end has the output of some state before it
  scans_keep : (n : ℕ) (out : Bytes) (x : Step) → Kept T out x → (o : Bytes) × Kept T o (scans L (language T) n x)
  unfolding scans
  scans_keep zero out x h = (out, h)
  scans_keep (suc n) out (next s) h = scans_keep n s.standing.output (scan L (language T) s) (scan_keeps s h)
  scans_keep (suc n) out (stop e) h = (out, h)

-- The theorems -------------------------------------------------------------------------------------------------------

-- The fresh standing has matched quotes where the values of its definitions have.
pub quotes_start : {T : Table} {ds : List Definition} (t : Bytes) → All (ValueMatches T) ds → QuotesMatch T (start t ds)
quotes_start {T} t D = record { calls = tt; output = matched-empty T; bodies = tt; values = D }

-- What is not counted has no value,
uncounted_match : (T : Table) (c : Content) → counts c < 1 → ContentMatches T c
uncounted_match T (macro x) h = absurd (omega arith)
uncounted_match T (built_in b) h = tt

-- as the built-ins have none.
pub built_ins_match : (T : Table) → All (ValueMatches T) built_ins
unfolding every
built_ins_match T =
    all_by (λ d. ltb (counts d.content) 1) (λ d h. uncounted_match T d.content (ltb-true (counts d.content) 1 h)) built_ins refl

module _ (L : Limits) (T : Table) (accepted : AcceptedTable T) where
  -- by the check for 32
  plainly : ReservedPlain T
  plainly = accepted_plain T accepted

  -- A scan keeps quotes matched,
  pub quotes_kept : {s s' : State} → QuotesMatch T s → scan L (language T) s ≡ next s' → QuotesMatch T s'
  quotes_kept {s} g e = subst (Kept T s.standing.output) e (scan_keeps L T plainly s g)

  -- so they are in every state of a run.
  pub quotes_always : (n : ℕ) (t : Bytes) {ds : List Definition} {s : State} → All (ValueMatches T) ds
      → scans L (language T) n (next (start t ds)) ≡ next s → QuotesMatch T s
  quotes_always n t {ds} D e =
      let (out, h) = scans_keep L T plainly n [] (next (start t ds)) (quotes_start t D) in
      subst (Kept T out) e h

  -- An end has the output of the state that was scanned,
  pub output_kept : {s : State} {e : End} → QuotesMatch T s → scan L (language T) s ≡ stop e → e.output ≡ s.standing.output
  output_kept {s} g p = (subst (Kept T s.standing.output) p (scan_keeps L T plainly s g)).unchanged

  -- which ends as deep in quotes as is said of that state.
  pub output_depth : {s : State} {e : End} → QuotesMatch T s → scan L (language T) s ≡ stop e
      → depth_after T 0 e.output ≡ Some (depth_written s.quotes s.calls)
  output_depth g p = ap (depth_after T 0) (output_kept g p) ∙ g.output

  -- Where a scan finishes the run, with 0 or 1, quotes in the output are matched,
  pub output_matched : {s : State} {e : End} → QuotesMatch T s → scan L (language T) s ≡ stop e → finishes e.outcome ≡ true → Matched T e.output
  output_matched {s} g p = (subst (Kept T s.standing.output) p (scan_keeps L T plainly s g)).matched

  -- so they are in the output of every run that finishes.
  pub run-matched : (n : ℕ) (t : Bytes) {ds : List Definition} → All (ValueMatches T) ds
      → finishes (run L (language T) n t ds).outcome ≡ true → Matched T (run L (language T) n t ds).output
  unfolding run
  run-matched n t {ds} D =
      let (out, h) = scans_keep L T plainly n [] (next (start t ds)) (quotes_start t D) in
      go out (scans L (language T) n (next (start t ds))) h
    where
      go : (out : Bytes) (x : Step) → Kept T out x → finishes (end_of x).outcome ≡ true → Matched T (end_of x).output
      go out (next s) h f = absurd (false-true f)
      go out (stop e) h f = h.matched f

-- "a body never shows an unquoted `>`"
pub no_unquote_in_body : {T : Table} {s : State} {B : Body} {Bs : List Body} {b : ℕ} {r : Bytes}
    → QuotesMatch T s → s.bodies ≡ B ∷ Bs → B.rest ≡ b ∷ r → meaning T s.quotes b ≡ unquotes → ⊥
no_unquote_in_body {T} {s} {B} {Bs} {b} {r} g e e' u =
    let R : Innermost (BodyMatches T) s.quotes (B ∷ Bs) = (rw e at g).bodies in
    go (subst (Means (sign_of T b) s.quotes (depth_by (sign_of T b) s.quotes)) u (means T s.quotes b))
    (taken T s.quotes b r B Bs (rw e' at R).0.rest R.0.list R.1)
  where
    go : {f : Sign} {q : ℕ} {d : Option ℕ} → Means f q d unquotes → BodiesLeft T d (with_rest r B ∷ Bs) → ⊥
    go unquoting l = l

-- "and never ends inside quotes"
pub body_ends-outside : {T : Table} {s : State} {B : Body} {Bs : List Body}
    → QuotesMatch T s → s.bodies ≡ B ∷ Bs → B.rest ≡ [] → s.quotes ≡ 0
body_ends-outside {T} {s} {B} {Bs} g e e' =
    let R : Innermost (BodyMatches T) s.quotes (B ∷ Bs) = (rw e at g).bodies in
    depth_empty T s.quotes 0 (rw e' at R).0.rest
