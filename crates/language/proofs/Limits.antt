-- A limited run is the unlimited one until a limit is really met.
use Prim.Native.Nat.{ℕ, zero, suc, ◌+◌, ◌-◌, ◌≤◌, ◌<◌, max}
use native.Mathlib.Numerals.{add-one}
use native.Mathlib.Omega.{arith}
use native.Mathlib.Nat.{zero-add, suc-add}
use mathlib.Core.Path.{◌≡◌, refl, sym, ◌∙◌, ap}
use mathlib.Core.Bool.{Bool, true, false, cond, not}
use mathlib.Core.List.{List, [], ◌∷◌, ◌++◌, append-nil, append_assoc}
use Rattle.std.specs.Prelude.{Option, None, Some}
use lib.ListN.{length, length-append}
use lib.Dec.{T as So, leb→le, nleb→lt, ltb}
use Rattle.language.specs.Signs.{Bytes, Language, Meaning, copied, left_out, opens, separates, applies, fetches, unquotes, meaning}
use Rattle.language.specs.Outcomes
use Rattle.language.specs.Outcomes.{end_of_text}
use Rattle.language.specs.Definitions.{Definition}
use Rattle.language.specs.BuiltIns.{Deed, reads, defines, gives, alters, faulty, deed, parameter}
use Rattle.language.specs.Charge.{open_price, end_price, definitions_price}
use Rattle.language.specs.Ends.{End}
use Rattle.language.specs.Scanning as S
use Rattle.language.specs.Scanning.{Call, Body, Standing, State, Step, next, stop, ends, standing_with, with_text, with_quotes, with_bodies, with_rest}
use Rattle.language.specs.Scanning.{counting, noting, charge, Limit, unlimited, at_most, allows, Limits, no_limits, list_of, reading, own_call}
use Rattle.language.specs.Scanning.{scan, scans, start, end_of, run}
use Rattle.language.specs.Expansion.{limits_of}
use Rattle.language.proofs.Deeds.{Does, to_read, to_define, to_give, to_alter, to_fail, deed_does}
use Rattle.language.proofs.Leads.{not_end, scans_stop}

-- what a state or an end reports
abbrev pub standing_of : Step → Standing
standing_of (next s) = s.standing
standing_of (stop e) = record { definitions = e.definitions; output = e.output; read = e.read; scans = e.scans; most = e.most }

-- where at most n scans of a text come to, from definitions
abbrev pub after : Limits → Language → Bytes → List Definition → ℕ → Step
after L G t ds n = scans L G n (next (start t ds))

-- Limits -------------------------------------------------------------------------------------------------------------

-- a number within a limit, and one above it
abbrev Within : Limit → ℕ → Type 0
Within unlimited n = Unit
Within (at_most m) n = n ≤ m

abbrev Above : Limit → ℕ → Type 0
Above unlimited n = ⊥
Above (at_most m) n = m < n

-- what the test of a limit shows where it passes
allows-within : (l : Limit) (n : ℕ) → So (allows l n) → Within l n
allows-within unlimited n h = tt
allows-within (at_most m) n h = leb→le n m h

-- and where it fails
refuses_above : (l : Limit) (n : ℕ) → So (not (allows l n)) → Above l n
refuses_above unlimited n h = h
refuses_above (at_most m) n h = nleb→lt n m h

-- the most that is noted stays within a limit
within-max : (l : Limit) (a b : ℕ) → Within l a → Within l b → Within l (max a b)
within-max unlimited a b p q = tt
within-max (at_most m) a b p q = omega arith

-- what is above a limit stays so as it grows
above_up : (l : Limit) (a b : ℕ) → a ≤ b → Above l a → Above l b
above_up unlimited a b p q = q
above_up (at_most m) a b p q = omega arith

-- nothing is within a limit and above it
not_both : (l : Limit) (n : ℕ) → Within l n → Above l n → ⊥
not_both unlimited n p q = q
not_both (at_most m) n p q = omega arith

-- a later standing: output was added at the end, and the most has not gone down
record Grows (w w' : Standing) : Type 0 where
  more : Bytes
  output : w'.output ≡ w.output ++ more
  most : w.most ≤ w'.most

-- what has not changed has grown by nothing
grows_refl : (w : Standing) → Grows w w
grows_refl w = record { more = []; output = sym (append-nil w.output); most = omega arith }

-- growth in two parts
grows_trans : {u v w : Standing} → Grows u v → Grows v w → Grows u w
grows_trans g h = record { more = g.more ++ h.more; output = h.output ∙ rw (g.output, append_assoc); most = omega arith }

module _ (L : Limits) where
  -- a standing within the limits
  record Fits (w : Standing) : Type 0 where
    most : Within L.cells w.most
    output : Within L.output (length w.output)

  -- a standing above the limit that the outcome k tells of
  data Exceeds (k : ℕ) (w : Standing) : Type 0 where
    over_cells : k ≡ Outcomes.no_cells_left → Above L.cells w.most → Exceeds k w
    over_output : k ≡ Outcomes.no_output_left → Above L.output (length w.output) → Exceeds k w

  -- a standing within the limits is above none of them
  fits_not_exceeds : {k : ℕ} {w : Standing} → Fits w → Exceeds k w → ⊥
  fits_not_exceeds f (over_cells p h) = not_both L.cells _ f.most h
  fits_not_exceeds f (over_output p h) = not_both L.output _ f.output h

  -- a standing later than one above a limit is above it
  exceeds_up : {k : ℕ} {w w' : Standing} → Grows w w' → Exceeds k w → Exceeds k w'
  exceeds_up g (over_cells p h) = over_cells p (above_up L.cells _ _ g.most h)
  exceeds_up g (over_output p h) = over_output p (above_up L.output _ _ (rw (g.output, length-append) (omega arith)) h)

  -- an outcome that tells of a limit is no end of the text
  exceeds_not_of_text : {k : ℕ} {w : Standing} → Exceeds k w → So (end_of_text k) → ⊥
  exceeds_not_of_text (over_cells p h) t = rw p at t
  exceeds_not_of_text (over_output p h) t = rw p at t

-- Faults of the text -------------------------------------------------------------------------------------------------

-- a result that, if it is an end, is one of the text
abbrev OfText : Step → Type 0
OfText (next s) = Unit
OfText (stop e) = So (end_of_text e.outcome)

-- a deed that, if it is a fault, is one of the text
abbrev Sound : Deed → Type 0
Sound (reads k v) = Unit
Sound (defines n v) = Unit
Sound (gives bs) = Unit
Sound (alters k change) = Unit
Sound (faulty n) = So (end_of_text n)

-- every fault of an applied call is of the text
deed_sound : (js : List ℕ) (list : List Bytes) (ds : List Definition) → Sound (deed js list ds)
deed_sound js list ds = go (deed_does js list ds)
  where
    go : {D : Deed} → Does list ds D → Sound D
    go (to_read stands) = tt
    go (to_define long name) = tt
    go to_give = tt
    go to_alter = tt
    go (to_fail of_text) = of_text

-- One scan with limits and without -----------------------------------------------------------------------------------

-- r reports what w does but for definitions and for the bytes bs, which it adds
abbrev Writes : Standing → Bytes → Step → Type 0
Writes w bs r = standing_of r ≡ standing_with (standing_of r).definitions (w.output ++ bs) w

-- a rule that writes makes the standing grow
writes_grows : {w : Standing} (bs : Bytes) (r : Step) → Writes w bs r → Grows w (standing_of r)
writes_grows bs r p = record { more = bs; output = rw p; most = rw p (omega arith) }

module _ (L : Limits) where
  -- the limited result r is an end with what stood at w, and the unlimited one, r∞, is above a limit
  record Refusal (w : Standing) (r r∞ : Step) : Type 0 where
    end : End
    stopped : r ≡ stop end
    output : end.output ≡ w.output
    definitions : end.definitions ≡ w.definitions
    exceeds : Exceeds L end.outcome (standing_of r∞)

  -- the limits change nothing, or refuse
  data How (w : Standing) (r r∞ : Step) : Type 0 where
    same : r ≡ r∞ → How w r r∞
    refuses : Refusal w r r∞ → How w r r∞

  -- what a part of a scan does from the standing w with the limits, r, and without, r∞
  record Alike (w : Standing) (r r∞ : Step) : Type 0 where
    scans : (standing_of r).scans ≡ w.scans
    fits : Fits L w → Fits L (standing_of r)
    grows : Grows w (standing_of r)
    grows∞ : Grows w (standing_of r∞)
    of_text : OfText r∞
    how : How w r r∞

  -- a rule that the limits allow
  allowed : {w : Standing} {r : Step} (bs : Bytes) → Writes w bs r → OfText r → (Fits L w → Within L.output (length (w.output ++ bs)))
      → Alike w r r
  allowed {r} bs p t f = record {
    scans = rw p;
    fits = λ h. record { most = rw p h.most; output = rw p (f h) };
    grows = writes_grows bs r p;
    grows∞ = writes_grows bs r p;
    of_text = t;
    how = same refl;
  }

  -- a rule that a limit refuses
  cut : (k : ℕ) (s : State) {r∞ : Step} → Grows s.standing (standing_of r∞) → OfText r∞ → Exceeds L k (standing_of r∞)
      → Alike s.standing (ends k s) r∞
  cut k s g t x = record {
    scans = refl;
    fits = λ h. h;
    grows = grows_refl s.standing;
    grows∞ = g;
    of_text = t;
    how = refuses (record { end = _; stopped = refl; output = refl; definitions = refl; exceeds = x });
  }

  -- a rule that neither charges nor writes
  kept : {w : Standing} {r : Step} → standing_of r ≡ standing_with (standing_of r).definitions w.output w → OfText r → Alike w r r
  kept p t = allowed [] (rw append-nil p) t λ h. rw append-nil h.output

  -- a rule that writes and charges nothing
  written : (bs : Bytes) (s : State) {r : Step} → Writes s.standing bs r → OfText r
      → Alike s.standing (cond (allows L.output (length s.standing.output + length bs)) r (ends Outcomes.no_output_left s)) r
  written bs s {r} p t = go (allows L.output n) (allows-within L.output n) (refuses_above L.output n)
    where
      n : ℕ
      n = length s.standing.output + length bs

      go : (b : Bool) → (So b → Within L.output n) → (So (not b) → Above L.output n)
          → Alike s.standing (cond b r (ends Outcomes.no_output_left s)) r
      go true within above = allowed bs p t λ h. rw length-append (within tt)
      go false within above = cut _ s (writes_grows bs r p) t (over_output refl (rw (p, length-append) (above tt)))

  -- a rule that charges n cells and goes on
  charged : (n : ℕ) (s : State) {r r∞ : Step} → Alike (noting (charge s + n) s).standing r r∞
      → Alike s.standing (cond (allows L.cells (charge s + n)) r (ends Outcomes.no_cells_left s)) r∞
  charged n s {r} {r∞} a = go (allows L.cells c) (allows-within L.cells c) (refuses_above L.cells c)
    where
      c : ℕ
      c = charge s + n

      up : Grows s.standing (noting c s).standing
      up = record { more = []; output = sym (append-nil s.standing.output); most = omega arith }

      how : How (noting c s).standing r r∞ → How s.standing r r∞
      how (same p) = same p
      how (refuses x) =
          refuses (record { end = x.end; stopped = x.stopped; output = x.output; definitions = x.definitions; exceeds = x.exceeds })

      go : (b : Bool) → (So b → Within L.cells c) → (So (not b) → Above L.cells c)
          → Alike s.standing (cond b r (ends Outcomes.no_cells_left s)) r∞
      go true within above = record {
        scans = a.scans;
        fits = λ h. a.fits (record { most = within-max L.cells _ _ h.most (within tt); output = h.output });
        grows = grows_trans up a.grows;
        grows∞ = grows_trans up a.grows∞;
        of_text = a.of_text;
        how = how a.how;
      }
      go false within above =
          cut _ s (grows_trans up a.grows∞) a.of_text (over_cells refl (above_up L.cells c _ (omega (arith, a.grows∞.most)) (above tt)))

  -- bytes for the innermost open call, or for the output
  put_alike : (cs : List Call) (bs : Bytes) (s : State) → Alike s.standing (S.put_to L cs bs s) (S.put_to no_limits cs bs s)
  put_alike [] bs s = written bs s refl tt
  put_alike (c ∷ cs) bs s = charged (length bs) s (kept refl tt)

  -- `,`
  separate_alike : (cs : List Call) (b : ℕ) (s : State) → Alike s.standing (S.separate L cs b s) (S.separate no_limits cs b s)
  separate_alike [] b s = put_alike s.calls (b ∷ []) s
  separate_alike (c ∷ cs) b s = charged end_price s (kept refl tt)

  -- the result of a built-in
  give_alike : (cs : List Call) (c : Call) (bs : Bytes) (s : State) → Alike s.standing (S.give L cs c bs s) (S.give no_limits cs c bs s)
  give_alike [] c bs s = written bs s refl tt
  give_alike (outer ∷ cs) c bs s = charged (end_price + length bs) s (kept refl tt)

  -- what an applied call does
  perform_alike : (D : Deed) → Sound D → (c : Call) (cs : List Call) (s : State)
      → Alike s.standing (S.perform L D c cs s) (S.perform no_limits D c cs s)
  perform_alike (reads k v) h c cs s = kept refl tt
  perform_alike (defines n v) h c cs s = kept refl tt
  perform_alike (gives bs) h c cs s = give_alike cs c bs s
  perform_alike (alters k change) h c cs s = kept refl tt
  perform_alike (faulty n) h c cs s = kept refl h

  -- `;` with an open call
  innermost_alike : (cs : List Call) (s : State) → Alike s.standing (S.apply_innermost L cs s) (S.apply_innermost no_limits cs s)
  innermost_alike [] s = kept refl tt
  innermost_alike (c ∷ cs) s =
      let d : Deed = deed (reading s.bodies) (list_of c) s.standing.definitions in
      charged end_price s (perform_alike d (deed_sound (reading s.bodies) (list_of c) s.standing.definitions) c cs (noting (charge s + end_price) s))

  -- `;` with none
  none_alike : (bodies : List Body) (b : ℕ) (s : State) → Alike s.standing (S.apply_none L bodies b s) (S.apply_none no_limits bodies b s)
  none_alike [] b s = put_alike s.calls (b ∷ []) s
  none_alike (body ∷ bodies) b s = kept refl tt

  -- `;`
  apply_alike : (own : Bool) (b : ℕ) (s : State) → Alike s.standing (S.apply L own b s) (S.apply no_limits own b s)
  apply_alike true b s = innermost_alike s.calls s
  apply_alike false b s = none_alike s.bodies b s

  -- `~` in the text
  fetch_in_text_alike : (cs : List Call) (b : ℕ) (s : State) → Alike s.standing (S.fetch_in_text L cs b s) (S.fetch_in_text no_limits cs b s)
  fetch_in_text_alike [] b s = put_alike s.calls (b ∷ []) s
  fetch_in_text_alike (c ∷ cs) b s = kept refl tt

  -- `~r` in a body, where r stands for a parameter
  supplied_alike : (given : Bool) (p : Bytes) (s : State) → Alike s.standing (S.fetch_supplied L given p s) (S.fetch_supplied no_limits given p s)
  supplied_alike true p s = put_alike s.calls p s
  supplied_alike false p s = kept refl tt

  -- `~` in a body, by what the byte after it stands for
  number_alike : (k : Option ℕ) (list : List Bytes) (s : State) → Alike s.standing (S.fetch_number L k list s) (S.fetch_number no_limits k list s)
  number_alike None list s = kept refl tt
  number_alike (Some k) list s = supplied_alike (ltb k (length list)) (parameter k list) s

  -- `~` in a body
  fetch_in_body_alike : (G : Language) (r : Bytes) (body : Body) (bodies : List Body) (s : State)
      → Alike s.standing (S.fetch_in_body L G r body bodies s) (S.fetch_in_body no_limits G r body bodies s)
  fetch_in_body_alike G [] body bodies s = kept refl tt
  fetch_in_body_alike G (b ∷ r) body bodies s = number_alike (G.parameter_number b) body.list (with_bodies (with_rest r body ∷ bodies) s)

  -- `~`
  fetch_alike : (G : Language) (bodies : List Body) (b : ℕ) (s : State)
      → Alike s.standing (S.fetch L G bodies b s) (S.fetch no_limits G bodies b s)
  fetch_alike G [] b s = fetch_in_text_alike s.calls b s
  fetch_alike G (body ∷ bodies) b s = fetch_in_body_alike G body.rest body bodies s

  -- `>` outside of quotes
  unquote_alike : (bodies : List Body) (cs : List Call) (b : ℕ) (s : State)
      → Alike s.standing (S.unquote L bodies cs b s) (S.unquote no_limits bodies cs b s)
  unquote_alike [] [] b s = kept refl tt
  unquote_alike [] (c ∷ cs) b s = kept refl tt
  unquote_alike (body ∷ bodies) cs b s = put_alike s.calls (b ∷ []) s

  -- a byte, by its meaning
  byte_alike : (G : Language) (m : Meaning) (b : ℕ) (s : State) → Alike s.standing (S.byte L G m b s) (S.byte no_limits G m b s)
  byte_alike G (copied q) b s = put_alike s.calls (b ∷ []) (with_quotes q s)
  byte_alike G (left_out q) b s = kept refl tt
  byte_alike G opens b s = charged open_price s (kept refl tt)
  byte_alike G separates b s = separate_alike s.calls b s
  byte_alike G applies b s = apply_alike (own_call s) b s
  byte_alike G fetches b s = fetch_alike G s.bodies b s
  byte_alike G unquotes b s = unquote_alike s.bodies s.calls b s

  -- the end of the text
  text_end_alike : (q : ℕ) (cs : List Call) (s : State) → Alike s.standing (S.text_end L q cs s) (S.text_end no_limits q cs s)
  text_end_alike (suc q) cs s = kept refl tt
  text_end_alike zero (c ∷ cs) s = kept refl tt
  text_end_alike zero [] s = kept refl tt

  -- the end of a body
  body_end_alike : (own : Bool) (body : Body) (bodies : List Body) (s : State)
      → Alike s.standing (S.body_end L own body bodies s) (S.body_end no_limits own body bodies s)
  body_end_alike true body bodies s = kept refl tt
  body_end_alike false body bodies s = kept refl tt

  module _ (G : Language) where
    -- a scan in a body
    from_body_alike : (r : Bytes) (body : Body) (bodies : List Body) (s : State)
        → Alike (counting 0 s).standing (S.from_body L G r body bodies s) (S.from_body no_limits G r body bodies s)
    from_body_alike [] body bodies s = body_end_alike (own_call s) body bodies (counting 0 s)
    from_body_alike (b ∷ r) body bodies s = byte_alike G (meaning G.table s.quotes b) b (with_bodies (with_rest r body ∷ bodies) (counting 0 s))

    -- a scan in a body or in the text, where it takes k bytes
    from_alike : (bodies : List Body) (t : Bytes) (s : State)
        → (k : ℕ) × Alike (counting k s).standing (S.from L G bodies t s) (S.from no_limits G bodies t s)
    from_alike [] [] s = (0, text_end_alike s.quotes s.calls (counting 0 s))
    from_alike [] (b ∷ t) s = (1, byte_alike G (meaning G.table s.quotes b) b (with_text t (counting 1 s)))
    from_alike (body ∷ bodies) t s = (0, from_body_alike body.rest body bodies s)

    -- a scan: it counts itself and the k bytes that it takes from the text
    scan_alike : (s : State) → (k : ℕ) × Alike (counting k s).standing (scan L G s) (scan no_limits G s)
    unfolding scan
    scan_alike s = from_alike s.bodies s.text s

-- Runs under any limits ----------------------------------------------------------------------------------------------

module _ (L : Limits) (G : Language) where
  -- m scans, and then k more
  scans_sum : (m k : ℕ) (r : Step) → scans L G (m + k) r ≡ scans L G k (scans L G m r)
  unfolding scans
  scans_sum zero k r = rw zero-add
  scans_sum (suc m) k (next s) = rw suc-add (scans_sum m k (scan L G s))
  scans_sum (suc m) k (stop e) = rw (suc-add, scans_stop L G k e)

  -- a scan after n others
  pub scans_next : (n : ℕ) (r : Step) (s : State) → scans L G n r ≡ next s → scans L G (suc n) r ≡ scan L G s
  unfolding scans
  scans_next n r s p = rw (← add-one, scans_sum n 1 r, p)

  -- a run that has ended has ended with any more scans
  pub scans_ended : (m n : ℕ) (r : Step) (e : End) → m ≤ n → scans L G m r ≡ stop e → scans L G n r ≡ stop e
  scans_ended m n r e h p = let q : n ≡ m + (n - m) = omega arith in rw (q, scans_sum m (n - m) r, p) (scans_stop L G (n - m) e)

  -- a scan counts itself
  scan_counts : (s : State) → (standing_of (scan L G s)).scans ≡ s.standing.scans + 1
  scan_counts s = (scan_alike L G s).1.scans

  -- a run that begins within its limits stays there
  scans_fit : (n : ℕ) (r : Step) → Fits L (standing_of r) → Fits L (standing_of (scans L G n r))
  unfolding scans
  scans_fit zero r f = f
  scans_fit (suc n) (next s) f = scans_fit n (scan L G s) ((scan_alike L G s).1.fits (record { most = f.most; output = f.output }))
  scans_fit (suc n) (stop e) f = f

  -- the standing of a run grows
  scans_grow : (n : ℕ) (r : Step) → Grows (standing_of r) (standing_of (scans L G n r))
  unfolding scans
  scans_grow zero r = grows_refl (standing_of r)
  scans_grow (suc n) (next s) =
      let g = (scan_alike L G s).1.grows in
      grows_trans (record { more = g.more; output = g.output; most = g.most }) (scans_grow n (scan L G s))
  scans_grow (suc n) (stop e) = grows_refl (standing_of (stop e))

  -- from any of its points to any later one
  scans_grow_to : (m n : ℕ) (r : Step) → m ≤ n → Grows (standing_of (scans L G m r)) (standing_of (scans L G n r))
  scans_grow_to m n r h = let q : n ≡ m + (n - m) = omega arith in rw (q, scans_sum m (n - m) r) (scans_grow (n - m) (scans L G m r))

  -- the output of a run grows only at its end
  pub output_grows : (k : ℕ) (s : State) → (more : Bytes) × ((standing_of (scans L G k (next s))).output ≡ s.standing.output ++ more)
  output_grows k s = let g = scans_grow k (next s) in (g.more, g.output)

  -- a run that has not ended has made every scan
  pub counted : (n : ℕ) (s s' : State) → scans L G n (next s) ≡ next s' → s'.standing.scans ≡ s.standing.scans + n
  unfolding scans
  counted zero s s' p = let q : s ≡ s' = cc in rw q (omega arith)
  counted (suc n) s s' p = go (scan L G s) (scan_counts s) p (λ s₁. counted n s₁ s')
    where
      go : (r : Step) → (standing_of r).scans ≡ s.standing.scans + 1 → scans L G n r ≡ next s'
          → ((s₁ : State) → scans L G n (next s₁) ≡ next s' → s'.standing.scans ≡ s₁.standing.scans + n)
          → s'.standing.scans ≡ s.standing.scans + suc n
      go (next s₁) c p ih = omega (arith, ih s₁ p)
      go (stop e) c p ih = not_end (sym p ∙ scans_stop L G n e)

  -- the end e of a run of at most n scans from s: it is reached with exactly as many as it reports
  pub record Counted (n : ℕ) (s : State) (e : End) : Type 0 where
    pub above : s.standing.scans < e.scans
    pub below : e.scans ≤ s.standing.scans + n
    pub exactly : scans L G (e.scans - s.standing.scans) (next s) ≡ stop e

  -- a run that has ended
  pub counted_end : (n : ℕ) (s : State) (e : End) → scans L G n (next s) ≡ stop e → Counted n s e
  unfolding scans
  counted_end zero s e p = not_end p
  counted_end (suc n) s e p = go (scan L G s) refl (scan_counts s) p (λ s₁. counted_end n s₁ e)
    where
      go : (r : Step) → scan L G s ≡ r → (standing_of r).scans ≡ s.standing.scans + 1 → scans L G n r ≡ stop e
          → ((s₁ : State) → scans L G n (next s₁) ≡ stop e → Counted n s₁ e) → Counted (suc n) s e
      go (next s₁) q c p ih =
          let i = ih s₁ p in
          let k : e.scans - s.standing.scans ≡ suc (e.scans - s₁.standing.scans) = omega (arith, i.above) in
          record {
            above = omega (arith, i.above);
            below = omega (arith, i.below);
            exactly = rw k (ap (scans L G (e.scans - s₁.standing.scans)) q ∙ i.exactly);
          }
      go (stop e₁) q c p ih =
          let d : e₁ ≡ e = cc (scans_stop L G n e₁) in
          let k : e.scans ≡ s.standing.scans + 1 = rw (← d) c in
          let one : e.scans - s.standing.scans ≡ 1 = omega arith in
          record { above = omega arith; below = omega arith; exactly = rw (one, ← d) q }

-- Limited runs -------------------------------------------------------------------------------------------------------

-- what the unlimited machine ends with is of the text
scans_of_text : (G : Language) (n : ℕ) (r : Step) → OfText r → OfText (scans no_limits G n r)
unfolding scans
scans_of_text G zero r h = h
scans_of_text G (suc n) (next s) h = scans_of_text G n (scan no_limits G s) (scan_alike no_limits G s).1.of_text
scans_of_text G (suc n) (stop e) h = h

-- e needs no more than c cells, o bytes of output and n scans
pub record Needs (c o n : ℕ) (e : End) : Type 0 where
  pub cells : e.most ≤ c
  pub output : length e.output ≤ o
  pub scans : e.scans ≤ n

module _ (G : Language) (t : Bytes) (ds : List Definition) where
  -- the unlimited run has made n scans and not ended, and e reports its standing
  pub record Lasted (n : ℕ) (e : End) : Type 0 where
    pub state : State
    pub reached : after no_limits G t ds n ≡ next state
    pub standing : state.standing ≡ standing_of (stop e)
    pub counts : e.scans ≡ n

  -- e is a refusal within n scans: the unlimited run has come as far, and its next scan passes what is lent
  pub record Refused (passes : Standing → Type 0) (n : ℕ) (e : End) : Type 0 where
    pub made : ℕ
    pub state : State
    pub reached : after no_limits G t ds made ≡ next state
    pub fewer : made < n
    pub counts : made + 1 ≡ e.scans
    pub output : state.standing.output ≡ e.output
    pub definitions : state.standing.definitions ≡ e.definitions
    pub passed : passes (standing_of (scan no_limits G state))

  -- the same refusal, within more scans, or said of one limit
  refused_as : {P Q : Standing → Type 0} {n n' : ℕ} {e : End} (x : Refused P n e)
      → n ≤ n' → Q (standing_of (scan no_limits G x.state)) → Refused Q n' e
  refused_as x h q = record {
    made = x.made;
    state = x.state;
    reached = x.reached;
    fewer = omega (arith, x.fewer);
    counts = x.counts;
    output = x.output;
    definitions = x.definitions;
    passed = q;
  }

  module _ (L : Limits) where
    -- where n scans with limits come to: to where those without come to, or to a refusal
    data Comes (n : ℕ) : Type 0 where
      alike : after L G t ds n ≡ after no_limits G t ds n → Comes n
      breaks : (e : End) → after L G t ds n ≡ stop e → Refused (Exceeds L e.outcome) n e → Comes n

    -- where one more comes to, from the result r of n scans, with limits and without
    comes_next : (n : ℕ) (r : Step) → after L G t ds n ≡ r → after no_limits G t ds n ≡ r → Comes (suc n)
    comes_next n (stop e) p q = alike (scans_ended L G n (suc n) _ e (omega arith) p ∙ sym (scans_ended no_limits G n (suc n) _ e (omega arith) q))
    comes_next n (next s) p q = go (scan_alike L G s).0 (scan_alike L G s).1.how
      where
        go : (k : ℕ) → How L (counting k s).standing (scan L G s) (scan no_limits G s) → Comes (suc n)
        go k (same e) = alike (scans_next L G n _ s p ∙ e ∙ sym (scans_next no_limits G n _ s q))
        go k (refuses x) =
            breaks x.end (scans_next L G n _ s p ∙ x.stopped) (record {
              made = n;
              state = s;
              reached = q;
              fewer = omega arith;
              counts = omega (arith, rw x.stopped at (scan_counts L G s), counted no_limits G n (start t ds) s q);
              output = sym x.output;
              definitions = sym x.definitions;
              passed = x.exceeds;
            })

    -- after any number of scans
    comes : (n : ℕ) → Comes n
    unfolding scans
    comes zero = alike refl
    comes (suc n) = go (comes n)
      where
        go : Comes n → Comes (suc n)
        go (alike p) = comes_next n (after no_limits G t ds n) p refl
        go (breaks e p x) = breaks e (scans_ended L G n (suc n) _ e (omega arith) p) (refused_as x (omega arith) x.passed)

    -- a state of the run with limits is one of the run without
    pub reached_alike : (n : ℕ) (s : State) → after L G t ds n ≡ next s → after no_limits G t ds n ≡ next s
    reached_alike n s p = go (comes n)
      where
        go : Comes n → after no_limits G t ds n ≡ next s
        go (alike q) = sym q ∙ p
        go (breaks e q x) = not_end (sym p ∙ q)

  -- the unlimited machine finishes or meets a fault of the text: it has none of the outcomes 2 to 9
  pub unlimited_ends : (m : ℕ) (e : End) → after no_limits G t ds m ≡ stop e → So (end_of_text e.outcome)
  unlimited_ends m e p = rw p at (scans_of_text G m (next (start t ds)) tt)

  module _ (c o n : ℕ) where
    -- what a limited run has met at its end e
    pub data Met (e : End) : Type 0 where
      ended : So (end_of_text e.outcome) → Met e
      allowance : e.outcome ≡ Outcomes.no_scans_left → Lasted n e → Met e
      cells : e.outcome ≡ Outcomes.no_cells_left → Refused (λ w. c < w.most) n e → Met e
      output : e.outcome ≡ Outcomes.no_output_left → Refused (λ w. o < length w.output) n e → Met e

    -- a limited run needs no more than is lent
    pub within-lent : definitions_price ds ≤ c → Needs c o n (run (limits_of c o) G n t ds)
    unfolding run
    within-lent d = go (after (limits_of c o) G t ds n) refl (scans_fit (limits_of c o) G n (next (start t ds)) (record { most = d; output = omega arith }))
      where
        go : (r : Step) → after (limits_of c o) G t ds n ≡ r → Fits (limits_of c o) (standing_of r) → Needs c o n (end_of r)
        go (next s) p f = record { cells = f.most; output = f.output; scans = omega (arith, counted (limits_of c o) G n (start t ds) s p) }
        go (stop e) p f = record { cells = f.most; output = f.output; scans = omega (arith, (counted_end (limits_of c o) G n (start t ds) e p).below) }

    -- a limited run that finishes or meets a fault of the text is the unlimited one
    pub ended_alike : So (end_of_text (run (limits_of c o) G n t ds).outcome) → after no_limits G t ds n ≡ stop (run (limits_of c o) G n t ds)
    unfolding run
    ended_alike h = go (comes (limits_of c o) n)
      where
        ended_at : (r : Step) → So (end_of_text (end_of r).outcome) → r ≡ stop (end_of r)
        ended_at (next s) h = absurd h
        ended_at (stop e) h = refl

        go : Comes (limits_of c o) n → after no_limits G t ds n ≡ stop (end_of (after (limits_of c o) G t ds n))
        go (alike p) = sym p ∙ ended_at (after (limits_of c o) G t ds n) h
        go (breaks e p x) = absurd (exceeds_not_of_text (limits_of c o) x.passed (rw p at h))

    -- an unlimited run that needs no more than is lent is the limited one
    pub fitting_run : (m : ℕ) (e : End) → after no_limits G t ds m ≡ stop e → Needs c o n e → run (limits_of c o) G n t ds ≡ e
    unfolding run
    fitting_run m e p f = go (comes (limits_of c o) n)
      where
        whole : after no_limits G t ds n ≡ stop e
        whole = scans_ended no_limits G (e.scans - 0) n _ e (omega (arith, f.scans)) (counted_end no_limits G m (start t ds) e p).exactly

        go : Comes (limits_of c o) n → end_of (after (limits_of c o) G t ds n) ≡ e
        go (alike q) = rw (q, whole)
        go (breaks e₁ q x) =
            absurd (fits_not_exceeds (limits_of c o) (record { most = f.cells; output = f.output }) (exceeds_up (limits_of c o) grown x.passed))
          where
            grown : Grows (standing_of (scan no_limits G x.state)) (standing_of (stop e))
            grown =
                rw (scans_next no_limits G x.made (next (start t ds)) x.state x.reached, whole)
                at (scans_grow_to no_limits G (suc x.made) n (next (start t ds)) x.fewer)

    -- a limited run ends as the unlimited one does, or has really met the limit that it reports
    pub otherwise : Met (run (limits_of c o) G n t ds)
    unfolding run
    otherwise = go (comes (limits_of c o) n)
      where
        reached : (r : Step) → after no_limits G t ds n ≡ r → Met (end_of r)
        reached (next s) q =
            allowance refl (record { state = s; reached = q; standing = refl; counts = omega (arith, counted no_limits G n (start t ds) s q) })
        reached (stop e) q = ended (unlimited_ends n e q)

        broken : (e : End) (x : Refused (Exceeds (limits_of c o) e.outcome) n e)
            → Exceeds (limits_of c o) e.outcome (standing_of (scan no_limits G x.state)) → Met e
        broken e x (over_cells k h) = cells k (refused_as x (omega arith) h)
        broken e x (over_output k h) = output k (refused_as x (omega arith) h)

        go : Comes (limits_of c o) n → Met (end_of (after (limits_of c o) G t ds n))
        go (alike p) = rw p (reached (after no_limits G t ds n) refl)
        go (breaks e p x) = rw p (broken e x x.passed)

    -- the output of a limited run is a beginning of that of the unlimited one at every later point
    pub prefix : (k : ℕ) → (run (limits_of c o) G n t ds).scans ≤ k
        → (more : Bytes) × ((standing_of (after no_limits G t ds k)).output ≡ (run (limits_of c o) G n t ds).output ++ more)
    prefix k h = go otherwise
      where
        e : End
        e = run (limits_of c o) G n t ds

        from : (m : ℕ) (r : Step) → m ≤ k → after no_limits G t ds m ≡ r → (standing_of r).output ≡ e.output
            → (more : Bytes) × ((standing_of (after no_limits G t ds k)).output ≡ e.output ++ more)
        from m r l p q = let g = scans_grow_to no_limits G m k (next (start t ds)) l in (g.more, g.output ∙ rw (p, q))

        go : Met e → (more : Bytes) × ((standing_of (after no_limits G t ds k)).output ≡ e.output ++ more)
        go (ended x) = from (e.scans - 0) (stop e) (omega arith) (counted_end no_limits G n (start t ds) e (ended_alike x)).exactly refl
        go (allowance p x) = from n (next x.state) (omega (arith, x.counts)) x.reached (ap (λ (w : Standing). w.output) x.standing)
        go (cells p x) = from x.made (next x.state) (omega (arith, x.counts)) x.reached x.output
        go (output p x) = from x.made (next x.state) (omega (arith, x.counts)) x.reached x.output

    -- and at its end
    pub prefix_end : (m : ℕ) (e : End) → after no_limits G t ds m ≡ stop e
        → (more : Bytes) × (e.output ≡ (run (limits_of c o) G n t ds).output ++ more)
    prefix_end m e p = rw (scans_ended no_limits G m k (next (start t ds)) e (omega arith) p) at (prefix k (omega arith))
      where
        k : ℕ
        k = m + (run (limits_of c o) G n t ds).scans
