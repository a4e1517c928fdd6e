-- The rule that the code finds before a scan is the one by which that scan writes.
use Prim.Native.Nat.{ℕ, zero, suc, ◌+◌, ◌≤◌, ◌<◌}
use native.Mathlib.Omega.{arith}
use mathlib.Core.Path.{◌≡◌, refl, sym, ap, subst, ◌∙◌}
use mathlib.Core.Bool.{Bool, true, false, cond}
use mathlib.Core.List.{List, [], ◌∷◌, ◌++◌, append_assoc}
use Rattle.std.specs.Prelude.{Option, None, Some}
use lib.ListN.{length, take, drop, length-append, length-drop, take-append-drop}
use lib.Seq.{drop-append-le, drop-append-add, take_at}
use lib.Dec.{eqb, ltb}
use borrow.Author.Tests.{eq-eqb, ne_eqb, le-ltb, lt-ltb, ltb-true}
use Rattle.memory.proofs.Blocks.{same_bytes_in, same_true}
use Rattle.language.specs.declared.built_ins.BuiltIn.{BuiltIn}
use Rattle.language.specs.declared.built_ins.BuiltIn.TheVariants.{Def, Val, Update, Arithmetic, Seq, Size, If, Lock}
use Rattle.language.specs.declared.signs.Sign.{Sign}
use Rattle.language.specs.declared.signs.Sign.TheVariants.{Plain, Dollar, Comma, Semicolon, Tilde, Quote, Unquote}
use Rattle.language.specs.Signs.{Bytes, Table, ascii, sign_of, Meaning, copied, left_out, opens, separates, applies, fetches, unquotes, outside, inside, closes_to, meaning, Language, language}
use Rattle.language.specs.Definitions.{Content, macro, built_in, Definition, Found, found, missing, newest}
use Rattle.language.specs.Definitions as D
use Rattle.language.specs.BuiltIns.{Deed, reads, defines, gives, alters, faulty, built_ins, needs, parameter, performed, deed_of, deed}
use Rattle.language.specs.Matched.{All, empty, with}
use Rattle.language.specs.Octets.{Octets, BodyOctets, HoldsOctets}
use Rattle.language.specs.Scanning.{State, Call, Body}
use Rattle.language.specs.Scanning as S
use Rattle.language.specs.Expansion.{lent}
use Rattle.language.specs.declared.rules.Rule.{Rule}
use Rattle.language.specs.declared.rules.Rule.TheVariants.{CopiedFromText, CopiedFromBody, Fetched, GivenByVal, GivenByBuiltIn}
use Rattle.language.specs.Origins as O
use Rattle.language.specs.Origins.{Writes, puts, giving, taking, taken, writes, given_by, rule_number}
use Rattle.language.proofs.Lists.{either, all_append}
use Rattle.language.proofs.Demand.{built_ins_free}
use Rattle.machine.specs.declared.run.Run.{Run}
use Rattle.machine.specs.Walks.{nowhere, packed}
use Rattle.machine.specs.Machine as M
use Rattle.machine.specs.Origins.{is_tilde, fetches_next, given_by_name, rule}
use Rattle.machine.specs.Items.{Item, defined, listed, definitions_of, encode_arguments, encode_call}
use Rattle.machine.specs.Frames.{Places, Frame, made, collects, reads, address, laid, items, places, lefts, calls}
use Rattle.machine.specs.Held.{Represents}
use Rattle.machine.proofs.Stack.{left_is, no_call, in_text}
use Rattle.machine.proofs.Finds.{first_of}
use Rattle.machine.proofs.Moves.{Collects, Reads}
use Rattle.machine.proofs.Naming.{TextAt, same_is}
use Rattle.machine.proofs.Putting.{call_before, call_is}
use Rattle.machine.proofs.Opening.{list_inside}
use Rattle.machine.proofs.Fetching.{body_next}
use Rattle.machine.proofs.Simulating.{first_octet, innermost_octets}

-- what is written, is written by this rule
abbrev pub RuleIs : Rule → Option Writes → Type 0
RuleIs k None = Unit {0}
RuleIs k (Some w) = w.rule ≡ rule_number k

-- inside of quotes nothing fetches
closing_copied : (q : ℕ) → closes_to q ≡ fetches → ⊥
closing_copied zero p = cc
closing_copied (suc q) p = cc

inside-copied : (q : ℕ) (g : Sign) → inside q g ≡ fetches → ⊥
inside-copied q Plain p = cc
inside-copied q Dollar p = cc
inside-copied q Comma p = cc
inside-copied q Semicolon p = cc
inside-copied q Tilde p = cc
inside-copied q Quote p = cc
inside-copied q Unquote p = closing_copied q p

-- Names --------------------------------------------------------------------------------------------------------------

-- a built-in has the rule that its name says
abbrev Right : Bytes → Content → Type 0
Right name (macro x) = Unit {0}
Right name (built_in b) = rule_number (cond (D.same name (ascii "VAL")) GivenByVal GivenByBuiltIn) ≡ given_by b

abbrev RightDefinition : Definition → Type 0
RightDefinition d = Right d.name d.content

built_ins_right : All RightDefinition built_ins
unfolding D.same
built_ins_right = with refl (with refl (with refl (with refl (with refl (with refl (with refl (with refl (with refl (with refl (with refl (with refl empty)))))))))))

items_right : (its : List Item) → All RightDefinition (definitions_of its)
unfolding definitions_of
items_right [] = empty
items_right (defined f name value spare ∷ its) = with tt (items_right its)
items_right (listed to links reader list ∷ its) = items_right its

abbrev RightFound : Bytes → Found → Type 0
RightFound name missing = Unit {0}
RightFound name (found k c) = Right name c

newest_right : (name : Bytes) {ds : List Definition} → All RightDefinition ds → RightFound name (newest name ds)
unfolding newest
newest_right name empty = tt
newest_right name (with {x = d} {xs = ds} p ps) = go (D.same name d.name) refl (newest_right name ps)
  where
    go : (t : Bool) → D.same name d.name ≡ t → RightFound name (newest name ds) → RightFound name (cond t (found (length ds) d.content) (newest name ds))
    go true e more = subst (λ (n : Bytes). Right n d.content) (sym (same_true name d.name (same_is name d.name ∙ e))) p
    go false e more = more

-- The name of the innermost call -------------------------------------------------------------------------------------

module _ (n base : ℕ) where
  -- its ended arguments stand behind its head
  record Arguments (fs : List Frame) (c : Call) : Type 0 where
    pub behind : List ℕ
    pub cells : drop ((places n base fs).call + 3) (lefts n base fs) ≡ encode_arguments c.ended ++ behind

  arguments_of : (fs : List Frame) (c : Call) (cs : List Call) → calls n base fs ≡ c ∷ cs → Arguments fs c
  unfolding laid lefts calls
  arguments_of [] c cs e = cc
  arguments_of (made f name value spare ∷ fs) c cs e = let x = arguments_of fs c cs e in record { behind = x.behind; cells = x.cells }
  arguments_of (collects ended hand waits ∷ fs) c cs e =
      let p = places n base fs in
      let x = encode_call (address n (items n base fs)) p.list (packed p.hand p.call) waits ended hand in
      let same : ended ≡ c.ended = cc in
      let d : drop (p.left + 3) (lefts n base fs ++ x) ≡ encode_arguments ended ++ (waits ∷ hand) =
      ap (λ (k : ℕ). drop (k + 3) (lefts n base fs ++ x)) (left_is n base fs) ∙ drop-append-add (lefts n base fs) x 3 in
      record { behind = waits ∷ hand; cells = d ∙ ap (λ (y : List Bytes). encode_arguments y ++ (waits ∷ hand)) same }
  arguments_of (reads list since d k v o ∷ fs) c cs e = let x = arguments_of fs c cs e in record { behind = x.behind; cells = x.cells }

module _ {n : ℕ} {heads whole start : List ℕ} {r : Run} {l o : List ℕ} {s : State} (h : Represents n built_ins heads whole start r (lent l o) s) where
  call_eq : r.calls.call ≡ (places n (length built_ins) h.frames).call
  call_eq = ap (λ (p : Places). p.call) h.places_are

  left_eq : r.calls.left ≡ (places n (length built_ins) h.frames).left
  left_eq = ap (λ (p : Places). p.left) h.places_are

  name_at : (c : Call) (cs : List Call) (a : Bytes) (more : List Bytes) → s.calls ≡ c ∷ cs → c.ended ≡ a ∷ more → TextAt l (r.calls.call + 3) a
  unfolding encode_arguments
  name_at c cs a more e q =
      let b = length built_ins in
      let fs = h.frames in
      let are : calls n b fs ≡ c ∷ cs = sym h.calls_are ∙ e in
      let some : Collects n b fs = rw are (omega arith) in
      let x = arguments_of n b fs c cs are in
      let low = lefts n b fs in
      let rest = drop r.calls.left l in
      let whole' : l ≡ low ++ rest = sym (take-append-drop r.calls.left l) ∙ ap (λ (y : List ℕ). y ++ rest) h.lefts_are in
      let inside : r.calls.call + 3 ≤ length low = omega (arith, call_eq, call_before n b fs some, left_is n b fs) in
      let d : drop (r.calls.call + 3) l ≡ encode_arguments (a ∷ more) ++ (x.behind ++ rest) =
      ap (drop (r.calls.call + 3)) whole'
      ∙ drop-append-le (r.calls.call + 3) low rest inside
      ∙ ap (λ (k : ℕ). drop (k + 3) low ++ rest) call_eq
      ∙ ap (λ (y : List ℕ). y ++ rest) x.cells
      ∙ append_assoc (encode_arguments c.ended) x.behind rest
      ∙ ap (λ (y : List Bytes). encode_arguments y ++ (x.behind ++ rest)) q in
      let f = first_of l (r.calls.call + 3) a more (x.behind ++ rest) d in
      let size : length (drop (r.calls.call + 3) l) ≡ suc (length ((a ++ encode_arguments more) ++ (x.behind ++ rest))) = ap length d in
      record {
        counted = f.counted;
        bytes = ap (take (length a)) f.bytes ∙ take_at a (encode_arguments more ++ (x.behind ++ rest)) (length a) refl;
        within = omega (arith, length-drop (r.calls.call + 3) l, length-append (a ++ encode_arguments more) (x.behind ++ rest), length-append a (encode_arguments more));
      }

  -- the rule by the name is that of the built-in which is found under it
  named_rule : (c : Call) (cs : List Call) (a : Bytes) (more : List Bytes) → s.calls ≡ c ∷ cs → c.ended ≡ a ∷ more
      → {k : ℕ} (b : BuiltIn) → newest a s.standing.definitions ≡ found k (built_in b) → given_by b ≡ rule_number (given_by_name l (r.calls.call + 3))
  named_rule c cs a more e q {k} b f =
      let t = name_at c cs a more e q in
      let right : RightFound a (newest a s.standing.definitions) =
      newest_right a (subst (All RightDefinition) (sym h.lies.stands.definitions) (all_append (items_right (items n (length built_ins) h.frames)) built_ins_right)) in
      let is : rule_number (cond (D.same a (ascii "VAL")) GivenByVal GivenByBuiltIn) ≡ given_by b = subst (RightFound a) f right in
      rw (t.counted, same_bytes_in (r.calls.call + 3 + 1) (length a) (ascii "VAL") l t.within, t.bytes, same_is a (ascii "VAL")) (sym is)

  -- Where a call is open only a built-in writes, and no call stands around it ---------------------------------------

  module _ (c : Call) (cs : List Call) (e : s.calls ≡ c ∷ cs) where
    abbrev given : Rule
    given = given_by_name l (r.calls.call + 3)

    none-put : (rule : ℕ) (bs : Bytes) → RuleIs given (puts s.calls rule bs)
    none-put rule bs = subst (λ (y : List Call). RuleIs given (puts y rule bs)) (sym e) tt

    gives_by : (b : BuiltIn) (ds : List Call) (d : Deed) → given_by b ≡ rule_number given → RuleIs given (giving b ds d)
    gives_by b [] (gives bs) p = p
    gives_by b (o ∷ ds) (gives bs) p = tt
    gives_by b ds (reads j v) p = tt
    gives_by b ds (defines m v) p = tt
    gives_by b ds (alters j h) p = tt
    gives_by b ds (faulty m) p = tt

    some_needed : (b : BuiltIn) → 1 ≤ needs b
    some_needed Def = omega arith
    some_needed Val = omega arith
    some_needed Update = omega arith
    some_needed (Arithmetic op) = omega arith
    some_needed Seq = omega arith
    some_needed Size = omega arith
    some_needed If = omega arith
    some_needed Lock = omega arith

    -- what is found under the name
    found_by : (ks : List ℕ) (f : Found) → newest (parameter 0 (S.list_of c)) s.standing.definitions ≡ f
        → RuleIs given (taking f cs (deed_of ks (S.list_of c) s.standing.definitions f))
    found_by ks missing p = tt
    found_by ks (found j (macro x)) p = tt
    found_by ks (found j (built_in b)) p = go (ltb (needs b) (length (S.list_of c))) refl
      where
        D : Deed
        D = performed ks (S.list_of c) s.standing.definitions b

        ended : (xs : List Bytes) → c.ended ≡ xs → needs b < length (xs ++ (c.hand ∷ [])) → given_by b ≡ rule_number given
        ended [] q long = let one = some_needed b in absurd (omega arith)
        ended (a ∷ more) q long = named_rule c cs a more e q b (ap (λ (xs : List Bytes). newest (parameter 0 (xs ++ (c.hand ∷ []))) s.standing.definitions) (sym q) ∙ p)

        go : (t : Bool) → ltb (needs b) (length (S.list_of c)) ≡ t → RuleIs given (giving b cs (cond t D (faulty 13)))
        go true q = gives_by b cs D (ended c.ended refl (ltb-true (needs b) (length (S.list_of c)) q))
        go false q = tt

    applied_by : (s₁ : State) → s₁.calls ≡ s.calls → s₁.standing.definitions ≡ s.standing.definitions → RuleIs given (O.applying s₁.calls s₁)
    unfolding deed
    applied_by s₁ same ds =
        subst (λ (y : List Call). RuleIs given (O.applying y s₁)) (sym (same ∙ e))
        (subst (λ (y : List Definition). RuleIs given (taking (newest (parameter 0 (S.list_of c)) y) cs (deed (S.reading s₁.bodies) (S.list_of c) y))) (sym ds)
        (found_by (S.reading s₁.bodies) (newest (parameter 0 (S.list_of c)) s.standing.definitions) refl))

    open_by : (G : Language) (m : Meaning) (x : ℕ) (s₁ : State) → s₁.calls ≡ s.calls → s₁.standing.definitions ≡ s.standing.definitions → RuleIs given (taken G m x s₁)
    open_by G m x s₁ same ds = go m
      where
        no_put : (rule : ℕ) (bs : Bytes) → RuleIs given (puts s₁.calls rule bs)
        no_put rule bs = subst (λ (y : List Call). RuleIs given (puts y rule bs)) (sym same) (none-put rule bs)

        number : (j : Option ℕ) (list : List Bytes) → RuleIs given (O.fetching_number j list s₁)
        number None list = tt
        number (Some j) list = no_put O.fetched (parameter j list)

        in_body : (t : Bytes) (list : List Bytes) → RuleIs given (O.fetching_in G t list s₁)
        in_body [] list = tt
        in_body (y ∷ t) list = number (G.parameter_number y) list

        fetching : (Bs : List Body) → RuleIs given (O.fetching G Bs x s₁)
        fetching [] = no_put (O.copied_from s₁.bodies) (x ∷ [])
        fetching (B ∷ Bs) = in_body B.rest B.list

        go : (m : Meaning) → RuleIs given (taken G m x s₁)
        go (copied q) = no_put (O.copied_from s₁.bodies) (x ∷ [])
        go (left_out q) = tt
        go opens = tt
        go separates = no_put (O.copied_from s₁.bodies) (x ∷ [])
        go applies = either (RuleIs given) (S.own_call s₁) (applied_by s₁ same ds) (no_put (O.copied_from s₁.bodies) (x ∷ []))
        go fetches = fetching s₁.bodies
        go unquotes = no_put (O.copied_from s₁.bodies) (x ∷ [])

  -- Where none is open, the source and the byte decide ---------------------------------------------------------------

  module _ (e : s.calls ≡ []) where
    no_call_is : eqb r.calls.call nowhere ≡ true
    no_call_is = eq-eqb _ _ (call_eq ∙ no_call n (length built_ins) h.frames (sym h.calls_are ∙ e))

    -- all but a fetched parameter
    copied_by : (k : Rule) (G : Language) (m : Meaning) (x : ℕ) (s₁ : State) → s₁.calls ≡ s.calls → O.copied_from s₁.bodies ≡ rule_number k
        → ((m ≡ fetches → RuleIs k (O.fetching G s₁.bodies x s₁))) → RuleIs k (taken G m x s₁)
    copied_by k G m x s₁ same from fetch = go m refl
      where
        copy : RuleIs k (O.copies x s₁)
        copy = subst (λ (y : List Call). RuleIs k (puts y (O.copied_from s₁.bodies) (x ∷ []))) (sym (same ∙ e)) from

        go : (m₁ : Meaning) → m ≡ m₁ → RuleIs k (taken G m₁ x s₁)
        go (copied q) p = copy
        go (left_out q) p = tt
        go opens p = tt
        go separates p = copy
        go applies p = either (RuleIs k) (S.own_call s₁) (subst (λ (y : List Call). RuleIs k (O.applying y s₁)) (sym (same ∙ e)) tt) copy
        go fetches p = fetch p
        go unquotes p = copy

    text_by : (G : Language) (t : Bytes) → s.bodies ≡ [] → RuleIs CopiedFromText (O.taken_from G [] t s)
    text_by G [] q = tt
    text_by G (x ∷ t) q =
        let from : O.copied_from s.bodies ≡ O.copied_from_text = ap O.copied_from q in
        let copy : RuleIs CopiedFromText (O.fetching G s.bodies x s) =
        subst (λ (Bs : List Body). RuleIs CopiedFromText (O.fetching G Bs x s)) (sym q) (subst (λ (y : List Call). RuleIs CopiedFromText (puts y (O.copied_from s.bodies) (x ∷ []))) (sym e) from) in
        copied_by CopiedFromText G (meaning G.table s.quotes x) x s refl from (λ p. copy)

    -- a byte of a body, by its kind
    body_by : (T : Table) (B : Body) (Bs : List Body) (x : ℕ) (t : Bytes) → M.body_byte r l ≡ Some x
        → RuleIs (cond (fetches_next r T l) Fetched CopiedFromBody)
        (taken (language T) (meaning T s.quotes x) x (S.with_bodies (S.with_rest t B ∷ Bs) s))
    unfolding meaning
    body_by T B Bs x t is = go s.quotes refl
      where
        fetch : (rest : Bytes) → RuleIs Fetched (O.fetching_in (language T) rest B.list (S.with_bodies (S.with_rest t B ∷ Bs) s))
        fetch [] = tt
        fetch (y ∷ rest) = number ((language T).parameter_number y)
          where
            to : (cs : List Call) (bs : Bytes) → RuleIs Fetched (puts cs O.fetched bs)
            to [] bs = refl
            to (c ∷ cs) bs = tt

            number : (j : Option ℕ) → RuleIs Fetched (O.fetching_number j B.list (S.with_bodies (S.with_rest t B ∷ Bs) s))
            number None = tt
            number (Some j) = to s.calls (parameter j B.list)

        signed : (g : Sign) → RuleIs (cond (is_tilde g) Fetched CopiedFromBody) (taken (language T) (outside g) x (S.with_bodies (S.with_rest t B ∷ Bs) s))
        signed Tilde = fetch t
        signed Plain = copied_by CopiedFromBody (language T) (outside Plain) x (S.with_bodies (S.with_rest t B ∷ Bs) s) refl refl (λ p. cc)
        signed Dollar = copied_by CopiedFromBody (language T) (outside Dollar) x (S.with_bodies (S.with_rest t B ∷ Bs) s) refl refl (λ p. cc)
        signed Comma = copied_by CopiedFromBody (language T) (outside Comma) x (S.with_bodies (S.with_rest t B ∷ Bs) s) refl refl (λ p. cc)
        signed Semicolon = copied_by CopiedFromBody (language T) (outside Semicolon) x (S.with_bodies (S.with_rest t B ∷ Bs) s) refl refl (λ p. cc)
        signed Quote = copied_by CopiedFromBody (language T) (outside Quote) x (S.with_bodies (S.with_rest t B ∷ Bs) s) refl refl (λ p. cc)
        signed Unquote = copied_by CopiedFromBody (language T) (outside Unquote) x (S.with_bodies (S.with_rest t B ∷ Bs) s) refl refl (λ p. cc)

        go : (q : ℕ) → s.quotes ≡ q → RuleIs (cond (fetches_next r T l) Fetched CopiedFromBody) (taken (language T) (meaning T q x) x (S.with_bodies (S.with_rest t B ∷ Bs) s))
        go zero p =
            rw (le-ltb 0 r.quotes (omega (arith, h.quotes)), is) (signed (sign_of T x))
        go (suc q) p =
            rw (lt-ltb 0 r.quotes (omega (arith, h.quotes)))
            (copied_by CopiedFromBody (language T) (inside q (sign_of T x)) x (S.with_bodies (S.with_rest t B ∷ Bs) s) refl refl
            (λ p₁. absurd (inside-copied q (sign_of T x) p₁)))

  in_body : (B : Body) (Bs : List Body) → s.bodies ≡ B ∷ Bs → eqb r.source.list nowhere ≡ false
  in_body B Bs e =
      let b = length built_ins in
      let fs = h.frames in
      let some : Reads n b fs = rw (sym h.bodies_are ∙ e) (omega arith) in
      let k = list_inside n b h.cells_lent fs some (omega (arith, h.lies.stands.right)) in
      let q : r.source.list ≡ (places n b fs).list = ap (λ (p : Places). p.list) h.places_are in
      ne_eqb r.source.list nowhere (λ z. absurd (omega (arith, h.cells_lent)))

  pub rule_is : (T : Table) → HoldsOctets s → RuleIs (rule r T l) (writes (language T) s)
  unfolding writes
  rule_is T oct = go s.calls refl
    where
      small : (B : Body) (Bs : List Body) (x : ℕ) (t : Bytes) → s.bodies ≡ B ∷ Bs → B.rest ≡ x ∷ t → x < 256
      small B Bs x t e q = first_octet (subst Octets q (innermost_octets (subst (All BodyOctets) e oct.bodies)).rest)

      none_open : s.calls ≡ [] → (Bs : List Body) → s.bodies ≡ Bs
          → RuleIs (cond (eqb r.source.list nowhere) CopiedFromText (cond (fetches_next r T l) Fetched CopiedFromBody)) (O.taken_from (language T) Bs s.text s)
      none_open e [] q =
          let is : eqb r.source.list nowhere ≡ true = eq-eqb _ _ (ap (λ (p : Places). p.list) h.places_are ∙ in_text n (length built_ins) h.frames (sym h.bodies_are ∙ q)) in
          rw is (text_by e (language T) s.text q)
      none_open e (B ∷ Bs) q = rw (in_body B Bs q) (rest B.rest refl)
        where
          rest : (t : Bytes) → B.rest ≡ t → RuleIs (cond (fetches_next r T l) Fetched CopiedFromBody) (O.taken_from_body (language T) t B Bs s)
          rest [] p = tt
          rest (x ∷ t) p = body_by e T B Bs x t (body_next h B Bs q x t p (small B Bs x t q p))

      some_open : (c : Call) (cs : List Call) → s.calls ≡ c ∷ cs → (Bs : List Body) (t : Bytes) → RuleIs (given_by_name l (r.calls.call + 3)) (O.taken_from (language T) Bs t s)
      some_open c cs e [] [] = tt
      some_open c cs e [] (x ∷ t) = open_by c cs e (language T) (meaning T s.quotes x) x s refl refl
      some_open c cs e (B ∷ Bs) t = rest B.rest
        where
          rest : (u : Bytes) → RuleIs (given_by_name l (r.calls.call + 3)) (O.taken_from_body (language T) u B Bs s)
          rest [] = tt
          rest (x ∷ u) = open_by c cs e (language T) (meaning T s.quotes x) x (S.with_bodies (S.with_rest u B ∷ Bs) s) refl refl

      go : (cs : List Call) → s.calls ≡ cs → RuleIs (rule r T l) (O.taken_from (language T) s.bodies s.text s)
      go [] e = rw (no_call_is e) (none_open e s.bodies refl)
      go (c ∷ cs) e =
          let some : Collects n (length built_ins) h.frames = rw (sym h.calls_are ∙ e) (omega arith) in
          rw (call_is built_ins_free h some) (some_open c cs e s.bodies s.text)
