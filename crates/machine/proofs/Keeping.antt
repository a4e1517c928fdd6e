-- Whatever the cells hold, a scan that goes on leaves the numbers of the standing in range.
use Prim.Native.Nat.{ℕ, zero, suc, ◌+◌, ◌-◌, ◌≤◌, ◌<◌}
use native.Mathlib.Omega.{arith}
use mathlib.Core.Path.{◌≡◌, refl, sym, subst, ◌∙◌}
use mathlib.Core.Bool.{Bool, true, false, cond}
use mathlib.Core.List.{List, [], ◌∷◌}
use lib.ListN.{length, get_or, set, length-set}
use lib.Dec.{eqb, leb, ltb}
use borrow.Author.Rules.{rules}
use borrow.Author.Tests.{ltb-false, leb-false}
use Rattle.language.specs.declared.built_ins.BuiltIn.{BuiltIn}
use Rattle.language.specs.declared.built_ins.BuiltIn.TheVariants.{Def, Val, Update, Arithmetic, Seq, Size, If, Lock}
use Rattle.language.specs.Signs.{cells_limit, parameter_number, sign_of}
use Rattle.language.specs.BuiltIns as B
use Rattle.language.specs.Charge.{open_price}
use Rattle.language.specs.Expansion.{Lent}
use Rattle.std.specs.Prelude.{Option, None, Some, IfSome, option_and_then, Result, Ok, Err}
use Rattle.decimal.specs.declared.operations.Refusal.{Refusal}
use Rattle.decimal.specs.Shortest.{digits}
use Rattle.language.specs.declared.outcomes.Outcome.{Outcome}
use Rattle.language.specs.declared.signs.Sign.{Sign}
use Rattle.language.specs.declared.signs.Sign.TheVariants.{Plain, Dollar, Comma, Semicolon, Tilde, Quote, Unquote}
use Rattle.machine.specs.declared.run.Run.{Run}
use Rattle.machine.specs.declared.run.Answer.{Answer}
use Rattle.machine.specs.declared.run.Answer.TheVariants.{GoesOn, Ended, Damaged, Refused}
use Rattle.machine.specs.Walks.{nowhere, mark, cell, head_size, arguments_from, list_overhead, is_locked, value_length, room, right_before, list_link, return_link, high, behind, argument, chosen, newest, definitions, is_read, built_in_named, compare, calculate}
use Rattle.machine.specs.Machine as M
use Rattle.machine.specs.Machine.{After, Sound, Ready, InRange, Resulting, Marked}
use Rattle.machine.proofs.Scans.{inside}
use Rattle.machine.proofs.Leaves.{found_below}

-- what goes on leaves the numbers in range and so many scans made, and no scan is refused
pub record Kept (n k made : ℕ) (a : After) : Type 0 where
  pub kept : a.answer ≡ GoesOn → InRange n k a.run
  pub counted : a.answer ≡ GoesOn → a.run.counts.scans ≡ made
  pub told : a.answer ≡ Refused → ⊥

-- the same with the index
record KeptIn (n k made : ℕ) (x : M.Indexed) : Type 0 where
  is : Kept n k made x.after

module _ {n k made : ℕ} where
  ends : {c : Outcome} {r : Run} {m : Lent} → Kept n k made (M.ends c r m)
  ends = record { kept = λ e. let z : ◌≡◌ {A = ℕ} 0 1 = cc in absurd (omega arith); counted = λ e. let z : ◌≡◌ {A = ℕ} 0 1 = cc in absurd (omega arith); told = λ e. let z : ◌≡◌ {A = ℕ} 0 1 = cc in omega arith }

  damaged : {r : Run} {m : Lent} → Kept n k made (M.damaged r m)
  damaged = record { kept = λ e. let z : ◌≡◌ {A = ℕ} 0 1 = cc in absurd (omega arith); counted = λ e. let z : ◌≡◌ {A = ℕ} 0 1 = cc in absurd (omega arith); told = λ e. let z : ◌≡◌ {A = ℕ} 0 1 = cc in omega arith }

  goes : {r : Run} {m : Lent} → Ready n r → r.counts.written ≤ k → r.counts.scans ≡ made → Kept n k made (M.goes r m)
  goes s w c = record { kept = λ e. record { ready = s; written = w }; counted = λ e. c; told = λ e. let z : ◌≡◌ {A = ℕ} 0 1 = cc in omega arith }

  -- by a test
  choose : (t : Bool) {a b : After} → (t ≡ true → Kept n k made a) → (t ≡ false → Kept n k made b) → Kept n k made (cond t a b)
  choose true x y = x refl
  choose false x y = y refl

  choose_in : (t : Bool) {x y : M.Indexed} → (t ≡ true → KeptIn n k made x) → (t ≡ false → KeptIn n k made y) → KeptIn n k made (cond t x y)
  choose_in true x y = x refl
  choose_in false x y = y refl

  ends_in : {c : Outcome} {r : Run} {h : List ℕ} {m : Lent} → KeptIn n k made (M.keeping h (M.ends c r m))
  ends_in = record { is = ends }

  damaged_in : {r : Run} {h : List ℕ} {m : Lent} → KeptIn n k made (M.keeping h (M.damaged r m))
  damaged_in = record { is = damaged }

module _ (m : Lent) where
  abbrev n : ℕ
  n = length m.cells

  abbrev k : ℕ
  k = length m.output

  module _ (r : Run) (s : Ready n r) (w : r.counts.written ≤ k) where
    write_kept : (b : ℕ) → Kept n k r.counts.scans (M.write r b m)
    write_kept b = choose (leb k r.counts.written) (λ t. ends) λ t.
        let q = leb-false k r.counts.written t in
        goes (search rules) (omega arith) refl

    put_kept : (b : ℕ) → Kept n k r.counts.scans (M.put r b m)
    put_kept b =
        choose (eqb r.calls.call nowhere) (λ t. write_kept b)
        (λ t. choose (leb n r.charge) (λ t. ends) λ t.
        let q = leb-false n r.charge t in
        goes (search rules) w refl)

    copy_kept : (from count : ℕ) → Kept n k r.counts.scans (M.copy r from count m)
    copy_kept from count =
        choose (eqb r.calls.call nowhere)
        (λ t. choose (ltb (k - r.counts.written) count) (λ t. ends) λ t.
        let q = ltb-false (k - r.counts.written) count t in
        goes (search rules) (omega arith) refl)
        (λ t. choose (ltb (n - r.charge) count) (λ t. ends) λ t.
        let q = ltb-false (n - r.charge) count t in
        goes (search rules) w refl)

    open_kept : Kept n k r.counts.scans (M.open_call r m)
    open_kept = choose (ltb (n - r.charge) open_price) (λ t. ends) λ t.
        let q = ltb-false (n - r.charge) open_price t in
        goes (search rules) w refl

    separate_kept : (b : ℕ) → Kept n k r.counts.scans (M.separate r b m)
    separate_kept b =
        choose (eqb r.calls.call nowhere) (λ t. write_kept b)
        (λ t. choose (leb n r.charge) (λ t. ends) λ t.
        let q = leb-false n r.charge t in
        goes (search rules) w refl)

    unquote_kept : (b : ℕ) → Kept n k r.counts.scans (M.unquote r b m)
    unquote_kept b =
        choose (eqb r.source.list nowhere) (λ t. choose (eqb r.calls.call nowhere) (λ t. ends) (λ t. ends)) (λ t. put_kept b)

    end_text_kept : Kept n k r.counts.scans (M.end_text r m)
    end_text_kept = choose (ltb 0 r.quotes) (λ t. ends) (λ t. choose (eqb r.calls.call nowhere) (λ t. ends) (λ t. ends))

    -- the end of a body
    end_to_kept : (to links reader gone : ℕ) → links < 4294967296 → reader < 4294967296 → (h : List ℕ) → KeptIn n k r.counts.scans (M.end_body_to r to links reader gone h m)
    end_to_kept to links reader gone x y h =
        choose_in (ltb to r.source.list) (λ t. damaged_in)
        (λ t₁. choose_in (ltb n to) (λ t. damaged_in)
        (λ t₂. choose_in (ltb r.source.list r.right) (λ t. damaged_in)
        (λ t₃. choose_in (ltb r.counts.live gone) (λ t. damaged_in) λ t₄.
        let q₁ = ltb-false to r.source.list t₁ in
        let q₂ = ltb-false n to t₂ in
        let q₃ = ltb-false r.source.list r.right t₃ in
        let q₄ = ltb-false r.counts.live gone t₄ in
        record { is = goes (search rules) w refl })))

  module _ (small : (i : ℕ) → get_or m.cells i 0 < 4294967296) where
    abbrev l : List ℕ
    l = m.cells

    module _ (r : Run) (s : Ready n r) (w : r.counts.written ≤ k) where
      end_body_kept : (h : List ℕ) → KeptIn n k r.counts.scans (M.end_body r h m)
      end_body_kept h =
          choose_in (M.own_call r l) (λ t. ends_in)
          (λ t. end_to_kept r s w (right_before l r.source.list) (list_link l r.source.list) (return_link l r.source.list) (definitions l (r.source.list + high (list_link l r.source.list) + list_overhead) (right_before l r.source.list))
          (small (r.source.list + 1)) (small (r.source.list + 2)) h)

      fetch_argument_kept : (p : Option ℕ) → r.source.offset < 4294967296 → Kept n k r.counts.scans (M.fetch_argument r p m)
      fetch_argument_kept None h = ends
      fetch_argument_kept (Some p) h = copy_kept (M.with_offset (r.source.offset + 1) r) (search rules) w (p + 1) (get_or l p 0)

      fetch_number_kept : (j : Option ℕ) → r.source.offset < 4294967296 → Kept n k r.counts.scans (M.fetch_number r j m)
      fetch_number_kept None h = ends
      fetch_number_kept (Some j) h = fetch_argument_kept (argument l (r.source.list + arguments_from) j) h

      fetch_body_kept : Kept n k r.counts.scans (M.fetch_in_body r m)
      fetch_body_kept = go (M.body_byte r l) refl
        where
          go : (x : Option ℕ) → x ≡ M.body_byte r l → Kept n k r.counts.scans (M.fetch_number r (option_and_then parameter_number x) m)
          go None e = ends
          go (Some b) e = fetch_number_kept (parameter_number b) (let q = inside r l e in omega (arith, small (r.source.body + 3)))

      fetch_kept : (b : ℕ) → Kept n k r.counts.scans (M.fetch r b m)
      fetch_kept b =
          choose (eqb r.source.list nowhere) (λ t. choose (eqb r.calls.call nowhere) (λ t. write_kept r s w b) (λ t. ends)) (λ t. fetch_body_kept)

    -- Built-ins ------------------------------------------------------------------------------------------------------

    release_kept : (r : Run) (kept : ℕ) → Resulting n kept r → r.counts.written ≤ k → Kept n k r.counts.scans (M.release r kept m)
    release_kept r kept s w =
        let to = right_before l r.calls.call in
        let gone = definitions l r.right (right_before l r.calls.call) in
        choose (ltb to r.right) (λ t. damaged)
        (λ t₁. choose (ltb n to) (λ t. damaged)
        (λ t₂. choose (ltb r.counts.live gone) (λ t. damaged) λ t₃.
        let q₁ = ltb-false to r.right t₁ in
        let q₂ = ltb-false n to t₂ in
        let q₃ = ltb-false r.counts.live gone t₃ in
        let q₄ = small (r.calls.call + 2) in
        goes (search rules) w refl))

    -- from what goes on
    onward_kept : {made : ℕ} (a : M.Indexed) (go : Run → List ℕ → M.Indexed) → Kept n k made a.after
        → (InRange n k a.after.run → a.after.run.counts.scans ≡ made → KeptIn n k made (go a.after.run a.heads)) → KeptIn n k made (M.onward a go)
    onward_kept {made} a go x y = by a.after.answer refl
      where
        by : (t : Answer) → a.after.answer ≡ t → KeptIn n k made (cond (M.goes_on t) (go a.after.run a.heads) a)
        by GoesOn e = y (x.kept e) (x.counted e)
        by (Ended c) e = record { is = x }
        by Damaged e = record { is = x }
        by Refused e = record { is = x }

    placing_kept : {made : ℕ} (a : After) (m' : Lent) → Kept n k made a → Kept n k made (M.placing a m')
    placing_kept a m' x = choose (M.goes_on a.answer) (λ t. record { kept = x.kept; counted = x.counted; told = x.told }) (λ t. x)

    define_kept : {made : ℕ} (r : Run) (name value letters bytes : ℕ) (h : List ℕ) → InRange n k r → r.counts.scans ≡ made → KeptIn n k made (M.define_in r name value letters bytes h m)
    define_kept r name value letters bytes h f c =
        let s = f.ready in
        let size = head_size + letters + bytes in
        choose_in (ltb r.right (size + r.calls.left)) (λ t. damaged_in)
        (λ t₁. choose_in (leb cells_limit r.counts.live) (λ t. damaged_in) λ t₂.
        let q₁ = ltb-false r.right (size + r.calls.left) t₁ in
        let q₂ = leb-false cells_limit r.counts.live t₂ in
        record { is = goes (search rules) f.written c })

    module _ (r : Run) (s : Marked n r) (w : r.counts.written ≤ k) (h : List ℕ) where
      give_kept : (count : ℕ) → Kept n k r.counts.scans (M.give r count m)
      give_kept count =
          choose (M.is_outer r l)
          (λ t. choose (ltb (k - r.counts.written) count) (λ t. ends) λ t.
          let q = ltb-false (k - r.counts.written) count t in
          release_kept (M.wrote count r) 0 (search rules) (omega arith))
          (λ t. choose (ltb (n - r.charge) count) (λ t. ends) λ t.
          let q = ltb-false (n - r.charge) count t in
          release_kept (M.charged count r) count (search rules) w)

      refuse_kept : (name : ℕ) → Kept n k r.counts.scans (M.refuse_name r name m)
      refuse_kept name = go (built_in_named l name)
        where
          go : (x : Option BuiltIn) → Kept n k r.counts.scans (M.refuse_named x r m)
          go None = ends
          go (Some b) = ends

      given_kept : (name : ℕ) (done : ℕ → After) (x : Option ℕ) → ((d : ℕ) → Kept n k r.counts.scans (done d)) → Kept n k r.counts.scans (M.given r name done x m)
      given_kept name done None found = refuse_kept name
      given_kept name done (Some d) found = found d

      val_kept : (name : ℕ) → Kept n k r.counts.scans (M.val r name h m)
      val_kept name = given_kept name (λ d. M.val_at r d m) (newest l h name) (λ d. placing_kept _ _ (give_kept (value_length l d)))

      -- the call ends, whatever the cells then hold
      altered_kept : {m' : Lent} → Kept n k r.counts.scans (record { run = (M.release r 0 m).run; answer = (M.release r 0 m).answer; lent = m' })
      altered_kept = let t = release_kept r 0 s w in record { kept = t.kept; counted = t.counted; told = t.told }

      update_kept : (name value : ℕ) → Kept n k r.counts.scans (M.update r name value h m)
      update_kept name value =
          given_kept name (λ d. M.update_at r value d m) (newest l h name) λ d.
          choose (is_locked l d) (λ t. ends)
          (λ t. choose (is_read l r.source.list r.source.body d) (λ t. ends)
          (λ t. choose (ltb (room l d) (get_or l value 0)) (λ t. ends) (λ t. altered_kept)))

      lock_kept : (name : ℕ) → Kept n k r.counts.scans (M.lock r name h m)
      lock_kept name = given_kept name (λ d. M.lock_in r d m) (newest l h name) (λ d. altered_kept)

      answer_kept : (x : Result (List ℕ) Refusal) → Kept n k r.counts.scans (M.give_answer r x m)
      answer_kept (Ok t) = placing_kept _ _ (give_kept (length t))
      answer_kept (Err refusal) = ends

      count_kept : (count : ℕ) → Kept n k r.counts.scans (M.give_count r count m)
      count_kept count = placing_kept _ _ (give_kept (length (digits count)))

      choose_kept : (name : ℕ) → Kept n k r.counts.scans (M.choose r name m)
      choose_kept name = go (chosen l name)
        where
          go : (x : Option ℕ) → Kept n k r.counts.scans (M.choose_at r name x m)
          go None = placing_kept _ _ (give_kept 0)
          go (Some second) = placing_kept _ _ (give_kept (get_or l second 0))

      def_kept : (name value : ℕ) → KeptIn n k r.counts.scans (M.def r name value h m)
      def_kept name value =
          choose_in (eqb (get_or l name 0) 0) (λ t. ends_in)
          (λ t. onward_kept (M.unindexed r h (M.release r 0 m)) (λ r₁ h₁. M.define_in r₁ name value (get_or l name 0) (get_or l value 0) h₁ m) (release_kept r 0 s w)
          (λ f c. define_kept (M.release r 0 m).run name value (get_or l name 0) (get_or l value 0) (M.unindexed r h (M.release r 0 m)).heads f c))

      perform_kept : (b : BuiltIn) (name last : ℕ) → KeptIn n k r.counts.scans (M.perform r b name last h m)
      perform_kept Def name last = def_kept (behind l name) last
      perform_kept Val name last = record { is = val_kept last }
      perform_kept Update name last = record { is = update_kept (behind l name) last }
      perform_kept (Arithmetic op) name last = record { is = answer_kept (calculate op l (behind l name) last) }
      perform_kept Seq name last = record { is = count_kept (compare l (behind l name) last) }
      perform_kept Size name last = record { is = count_kept (get_or l last 0) }
      perform_kept If name last = record { is = choose_kept name }
      perform_kept Lock name last = record { is = lock_kept last }

      supplied_kept : (b : BuiltIn) (name : ℕ) (x : Option ℕ) → KeptIn n k r.counts.scans (M.supplied_to r b name x h m)
      supplied_kept b name None = ends_in
      supplied_kept b name (Some last) = perform_kept b name last

      built_in_kept : (name : ℕ) → KeptIn n k r.counts.scans (M.apply_built_in r name h m)
      built_in_kept name = go (built_in_named l name)
        where
          go : (x : Option BuiltIn) → KeptIn n k r.counts.scans (M.apply_named r x name h m)
          go None = ends_in
          go (Some b) = supplied_kept b name (argument l name (B.needs b))

      -- the body of a definition that was found
      read_kept : (d : ℕ) → d ≤ 65535 → Kept n k r.counts.scans (M.read_body r d m)
      read_kept d h =
          let q = small (r.calls.call + 2) in
          goes (search rules) w refl

      marked_kept : KeptIn n k r.counts.scans (M.apply_marked r h m)
      marked_kept = go (newest l h name) (found_below l h name)
        where
          name : ℕ
          name = r.calls.call + arguments_from

          go : (x : Option ℕ) → IfSome x (λ d. d < n) → KeptIn n k r.counts.scans (M.apply_found r x h m)
          go None below = built_in_kept name
          go (Some d) below = record { is = read_kept d (omega (arith, s.cells_lent)) }

-- One scan -----------------------------------------------------------------------------------------------------------

-- a cell that is set keeps the cells small
small_set : (l : List ℕ) (j v : ℕ) → v < 4294967296 → ((i : ℕ) → get_or l i 0 < 4294967296) → (i : ℕ) → get_or (set l j v) i 0 < 4294967296
small_set [] j v h s i = s i
small_set (x ∷ l) zero v h s zero = h
small_set (x ∷ l) zero v h s (suc i) = s (suc i)
small_set (x ∷ l) (suc j) v h s zero = s zero
small_set (x ∷ l) (suc j) v h s (suc i) = small_set l j v h (λ (i : ℕ). s (suc i)) i

module _ (m : Lent) (h : List ℕ) (small : (i : ℕ) → get_or m.cells i 0 < 4294967296) where
  abbrev cells : ℕ
  cells = length m.cells

  abbrev room' : ℕ
  room' = length m.output

  module _ (r : Run) (s : Ready cells r) (w : r.counts.written ≤ room') where
    -- the cells with the argument in hand ended and the mark set
    abbrev marked : List ℕ
    marked = set (M.end_argument r m.cells) r.calls.left mark

    ended_small : (i : ℕ) → get_or (M.end_argument r m.cells) i 0 < 4294967296
    ended_small = go (ltb r.calls.hand r.calls.left)
      where
        go : (t : Bool) (i : ℕ) → get_or (cond t (set m.cells r.calls.hand (cell (r.calls.left - (r.calls.hand + 1)))) m.cells) i 0 < 4294967296
        go true i = small_set m.cells r.calls.hand _ (omega arith) small i
        go false i = small i

    ended_size : length (M.end_argument r m.cells) ≡ cells
    ended_size = go (ltb r.calls.hand r.calls.left)
      where
        go : (t : Bool) → length (cond t (set m.cells r.calls.hand (cell (r.calls.left - (r.calls.hand + 1)))) m.cells) ≡ cells
        go true = length-set m.cells r.calls.hand (cell (r.calls.left - (r.calls.hand + 1)))
        go false = refl

    marked_size : length marked ≡ cells
    marked_size = length-set (M.end_argument r m.cells) r.calls.left mark ∙ ended_size

    apply_kept : (b : ℕ) → KeptIn cells room' r.counts.scans (M.apply r b h m)
    apply_kept b =
        choose_in (M.own_call r m.cells)
        (λ t. choose_in (leb cells r.charge) (λ t. ends_in) λ t.
        choose_in (ltb r.calls.left (r.calls.call + open_price)) (λ t. damaged_in) λ t₂.
        let q = leb-false cells r.charge t in
        let q₂ = ltb-false r.calls.left (r.calls.call + open_price) t₂ in
        let m' = M.with_cells marked m in
        let s' : Marked cells (M.charged 1 r) = search rules in
        subst (λ (j : ℕ). KeptIn j room' r.counts.scans (M.apply_marked (M.charged 1 r) h m')) marked_size
        (marked_kept m' (small_set (M.end_argument r m.cells) r.calls.left mark (omega arith) ended_small) (M.charged 1 r)
        (subst (λ (j : ℕ). Marked j (M.charged 1 r)) (sym marked_size) s') w h))
        (λ t. choose_in (eqb r.source.list nowhere) (λ t. record { is = put_kept m r s w b }) (λ t. ends_in))

  -- a byte, within a scan that is counted
  module _ (r : Run) (s : Sound cells r) (w : r.counts.written ≤ room') where
    calmed : Ready cells r
    calmed = search rules

    sign_kept : (sign : Sign) (b : ℕ) → KeptIn cells room' r.counts.scans (M.scan_sign r sign b h m)
    sign_kept Plain b = record { is = put_kept m r calmed w b }
    sign_kept Dollar b = record { is = open_kept m r calmed w }
    sign_kept Comma b = record { is = separate_kept m r calmed w b }
    sign_kept Semicolon b = apply_kept r calmed w b
    sign_kept Tilde b = record { is = fetch_kept m small r calmed w b }
    sign_kept Quote b = record { is = goes (search rules) w refl }
    sign_kept Unquote b = record { is = unquote_kept m r calmed w b }

    after : (sign : Sign) → M.quotes_after r.quotes sign ≤ r.counts.scans
    after Plain = omega (arith, s.quotes_below)
    after Dollar = omega (arith, s.quotes_below)
    after Comma = omega (arith, s.quotes_below)
    after Semicolon = omega (arith, s.quotes_below)
    after Tilde = omega (arith, s.quotes_below)
    after Quote = omega (arith, s.quotes_below)
    after Unquote = omega (arith, s.quotes_below)

    byte_kept : (sign : Sign) (b : ℕ) → KeptIn cells room' r.counts.scans (M.scan_byte r sign b h m)
    byte_kept sign b =
        choose_in (ltb 0 r.quotes)
        (λ t. record {
          is = choose (eqb (M.quotes_after r.quotes sign) 0) (λ t. goes (search rules) w refl)
              (λ t. let q = after sign in put_kept m (M.with_quotes (M.quotes_after r.quotes sign) r) (search rules) w b);
        })
        (λ t. sign_kept sign b)

  -- Whatever the cells hold, a scan that goes on leaves the numbers in range.
  step_kept_in : (r : Run) (kinds text : List ℕ) → InRange cells room' r → KeptIn cells room' (r.counts.scans + 1) (M.step r kinds text h m)
  unfolding M.step
  step_kept_in r kinds text f =
      let s = f.ready in
      let w = f.written in
      let r₁ = M.scanned r in
      choose_in (eqb r.source.list nowhere)
      (λ t. choose_in (leb (length text) r.counts.read) (λ t. record { is = end_text_kept m r₁ (search rules) w })
      (λ t.
      let b = get_or text r.counts.read 0 in
      byte_kept (M.with_read (r.counts.read + 1) r₁) (search rules) w (sign_of kinds b) b))
      (λ t. body_kept (M.body_byte r₁ m.cells) refl)
    where
      body_kept : (x : Option ℕ) → x ≡ M.body_byte (M.scanned r) m.cells → KeptIn cells room' (r.counts.scans + 1) (M.scan_body_at (M.scanned r) kinds x h m)
      body_kept None e = let s = f.ready in end_body_kept m small (M.scanned r) (search rules) f.written h
      body_kept (Some b) e =
          let s = f.ready in
          let q = inside (M.scanned r) m.cells e in
          let q₂ = small (r.source.body + 3) in
          byte_kept (M.with_offset (r.source.offset + 1) (M.scanned r)) (search rules) f.written (sign_of kinds b) b

  pub step_kept : (r : Run) (kinds text : List ℕ) → InRange cells room' r → Kept cells room' (r.counts.scans + 1) (M.step r kinds text h m).after
  step_kept r kinds text f = (step_kept_in r kinds text f).is
