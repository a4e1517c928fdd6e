-- What a scan does to the stack of frames, and what that is in items, positions, cells, calls and bodies.
use Prim.Native.Nat.{ℕ, suc, ◌+◌, ◌≤◌, ◌<◌}
use native.Mathlib.Omega.{arith}
use mathlib.Core.Path.{◌≡◌, refl, sym, ap, subst, ◌∙◌}
use mathlib.Core.List.{List, [], ◌∷◌, ◌++◌, append_assoc}
use lib.ListN.{length, drop, length-append, length-drop}
use lib.Seq.{drop-drop}
use Rattle.language.specs.Signs.{Bytes}
use Rattle.language.specs.Charge.{arguments_price}
use Rattle.language.specs.Scanning.{Call, Body, calls_below, with_hand, with_rest}
use Rattle.language.specs.Scanning as S
use Rattle.language.proofs.Prices.{arguments_last}
use Rattle.machine.specs.Walks.{packed}
use Rattle.machine.proofs.Items.{arguments_size, encode_arguments_last}
use Rattle.machine.proofs.Stack.{left_is, below_is}
use Rattle.machine.specs.Items.{Item, defined, listed, encode_arguments, count, encode_call, Definitions}
use Rattle.machine.specs.Frames.{Places, Frame, made, collects, reads, address, At, there, laid, items, places, lefts, calls, bodies, Valid}

-- bytes collected by the innermost open call
unfoldable pub collect : Bytes → List Frame → List Frame
collect bs [] = []
collect bs (made f name value spare ∷ fs) = made f name value spare ∷ collect bs fs
collect bs (collects ended hand waits ∷ fs) = collects ended (hand ++ bs) waits ∷ fs
collect bs (reads list since d k v o ∷ fs) = reads list since d k v o ∷ collect bs fs

-- the argument in hand of the innermost open call ended; w stands in the cell that waits for the next one's length
unfoldable pub end_argument : ℕ → List Frame → List Frame
end_argument w [] = []
end_argument w (made f name value spare ∷ fs) = made f name value spare ∷ end_argument w fs
end_argument w (collects ended hand waits ∷ fs) = collects (ended ++ (hand ∷ [])) [] w ∷ fs
end_argument w (reads list since d k v o ∷ fs) = reads list since d k v o ∷ end_argument w fs

-- one byte more of the innermost body read
unfoldable pub advance : List Frame → List Frame
advance [] = []
advance (made f name value spare ∷ fs) = made f name value spare ∷ advance fs
advance (collects ended hand waits ∷ fs) = collects ended hand waits ∷ advance fs
advance (reads list since d k v o ∷ fs) = reads list since d k v (o + 1) ∷ fs

-- definitions made
unfoldable pub made_all : List Item → List Frame → List Frame
made_all [] fs = fs
made_all (defined f name value spare ∷ since) fs = made f name value spare ∷ made_all since fs
made_all (listed to links reader list ∷ since) fs = made_all since fs

abbrev pub with_left : ℕ → Places → Places
with_left l p = record { left = l; call = p.call; hand = p.hand; list = p.list; body = p.body; offset = p.offset }

abbrev pub with_offset : ℕ → Places → Places
with_offset o p = record { left = p.left; call = p.call; hand = p.hand; list = p.list; body = p.body; offset = o }

abbrev pub put_hand : Bytes → List Call → List Call
put_hand bs [] = []
put_hand bs (c ∷ cs) = with_hand (c.hand ++ bs) c ∷ cs

abbrev pub with_hand_at : Places → Places
with_hand_at p = record { left = p.left + 1; call = p.call; hand = p.left; list = p.list; body = p.body; offset = p.offset }

abbrev pub separate_head : List Call → List Call
separate_head [] = []
separate_head (c ∷ cs) = S.separated c ∷ cs

abbrev pub drop_one : List Body → List Body
drop_one [] = []
drop_one (b ∷ bs) = with_rest (drop 1 b.rest) b ∷ bs

module _ (n base : ℕ) where
  -- Collecting -------------------------------------------------------------------------------------------------------

  -- whether a call is open at all
  abbrev pub Collects : List Frame → Type 0
  Collects fs = 0 < length (calls n base fs)

  pub collect_laid : (bs : Bytes) (fs : List Frame) → Collects fs
      → (items n base (collect bs fs) ≡ items n base fs) × (places n base (collect bs fs) ≡ with_left ((places n base fs).left + length bs) (places n base fs))
  unfolding laid collect calls
  collect_laid bs [] h = absurd (omega arith)
  collect_laid bs (made f name value spare ∷ fs) h = let r = collect_laid bs fs h in (rw r.0, r.1)
  collect_laid bs (collects ended hand waits ∷ fs) h =
      let e : (places n base fs).left + (4 + (arguments_price ended + length (hand ++ bs))) ≡ (places n base fs).left + (4 + (arguments_price ended + length hand)) + length bs =
      omega (arith, length-append hand bs) in
      (refl, rw e)
  collect_laid bs (reads list since d k v o ∷ fs) h = let r = collect_laid bs fs h in (rw (r.0, r.1), rw (r.0, r.1))

  pub collect_lefts : (bs : Bytes) (fs : List Frame) → Collects fs → lefts n base (collect bs fs) ≡ lefts n base fs ++ bs
  unfolding lefts collect calls
  collect_lefts bs [] h = absurd (omega arith)
  collect_lefts bs (made f name value spare ∷ fs) h = collect_lefts bs fs h
  collect_lefts bs (collects ended hand waits ∷ fs) h =
      let p = places n base fs in
      let a = address n (items n base fs) in
      let l = packed p.hand p.call in
      ap (λ (x : List ℕ). lefts n base fs ++ (a ∷ p.list ∷ l ∷ x)) (sym (append_assoc (encode_arguments ended) (waits ∷ hand) bs))
      ∙ sym (append_assoc (lefts n base fs) (encode_call a p.list l waits ended hand) bs)
  collect_lefts bs (reads list since d k v o ∷ fs) h = collect_lefts bs fs h

  pub collect_calls : (bs : Bytes) (fs : List Frame) → calls n base (collect bs fs) ≡ put_hand bs (calls n base fs)
  unfolding calls collect
  collect_calls bs [] = refl
  collect_calls bs (made f name value spare ∷ fs) = collect_calls bs fs
  collect_calls bs (collects ended hand waits ∷ fs) = refl
  collect_calls bs (reads list since d k v o ∷ fs) = collect_calls bs fs

  put_hand_length : (bs : Bytes) (cs : List Call) → length (put_hand bs cs) ≡ length cs
  put_hand_length bs [] = refl
  put_hand_length bs (c ∷ cs) = refl

  pub collect_bodies : (bs : Bytes) (fs : List Frame) → Collects fs → bodies n base (collect bs fs) ≡ bodies n base fs
  unfolding bodies collect calls
  collect_bodies bs [] h = absurd (omega arith)
  collect_bodies bs (made f name value spare ∷ fs) h = collect_bodies bs fs h
  collect_bodies bs (collects ended hand waits ∷ fs) h = refl
  collect_bodies bs (reads list since d k v o ∷ fs) h =
      rw (collect_bodies bs fs h, (collect_laid bs fs h).0, collect_calls bs fs, put_hand_length bs (calls n base fs))

  pub collect_valid : (bs : Bytes) (fs : List Frame) → Collects fs → Valid n base fs → Valid n base (collect bs fs)
  unfolding Valid collect calls
  collect_valid bs [] h v = absurd (omega arith)
  collect_valid bs (made f name value spare ∷ fs) h v = collect_valid bs fs h v
  collect_valid bs (collects ended hand waits ∷ fs) h v = v
  collect_valid bs (reads list since d k x o ∷ fs) h v = rw (collect_laid bs fs h).0 (collect_valid bs fs h v.0, v.1, v.2, v.3, v.4)

  -- Advancing --------------------------------------------------------------------------------------------------------

  abbrev pub Reads : List Frame → Type 0
  Reads fs = 0 < length (bodies n base fs)

  pub advance_laid : (fs : List Frame) → Reads fs
      → (items n base (advance fs) ≡ items n base fs) × (places n base (advance fs) ≡ with_offset ((places n base fs).offset + 1) (places n base fs))
  unfolding laid advance bodies
  advance_laid [] h = absurd (omega arith)
  advance_laid (made f name value spare ∷ fs) h = let r = advance_laid fs h in (rw r.0, r.1)
  advance_laid (collects ended hand waits ∷ fs) h = let r = advance_laid fs h in (r.0, rw r.1)
  advance_laid (reads list since d k v o ∷ fs) h = (refl, refl)

  pub advance_lefts : (fs : List Frame) → Reads fs → lefts n base (advance fs) ≡ lefts n base fs
  unfolding lefts advance bodies
  advance_lefts [] h = absurd (omega arith)
  advance_lefts (made f name value spare ∷ fs) h = advance_lefts fs h
  advance_lefts (collects ended hand waits ∷ fs) h = rw (advance_lefts fs h, (advance_laid fs h).0, (advance_laid fs h).1)
  advance_lefts (reads list since d k v o ∷ fs) h = refl

  pub advance_calls : (fs : List Frame) → Reads fs → calls n base (advance fs) ≡ calls n base fs
  unfolding calls advance bodies
  advance_calls [] h = absurd (omega arith)
  advance_calls (made f name value spare ∷ fs) h = advance_calls fs h
  advance_calls (collects ended hand waits ∷ fs) h = rw (advance_calls fs h, (advance_laid fs h).0)
  advance_calls (reads list since d k v o ∷ fs) h = refl

  pub advance_bodies : (fs : List Frame) → bodies n base (advance fs) ≡ drop_one (bodies n base fs)
  unfolding bodies advance
  advance_bodies [] = refl
  advance_bodies (made f name value spare ∷ fs) = advance_bodies fs
  advance_bodies (collects ended hand waits ∷ fs) = advance_bodies fs
  advance_bodies (reads list since d k v o ∷ fs) = rw (drop-drop 1 o v)

  -- what is known of the reader of the innermost body
  pub record Reader (fs : List Frame) (b : Body) : Type 0 where
    pub value : Bytes
    pub at : At n base (items n base fs) (places n base fs).body b.number value
    pub within : (places n base fs).offset ≤ length value
    pub rest : b.rest ≡ drop (places n base fs).offset value

  pub reader_of : (fs : List Frame) (b : Body) (bs : List Body) → Valid n base fs → bodies n base fs ≡ b ∷ bs → Reader fs b
  unfolding Valid laid bodies
  reader_of [] b bs v e = let z : ◌≡◌ {A = ℕ} 0 1 = cc in absurd (omega arith)
  reader_of (made f name value spare ∷ fs) b bs v e =
      let r = reader_of fs b bs v e in
      record { value = r.value; at = there r.at; within = r.within; rest = r.rest }
  reader_of (collects ended hand waits ∷ fs) b bs v e =
      let r = reader_of fs b bs v e in
      record { value = r.value; at = r.at; within = r.within; rest = r.rest }
  reader_of (reads list since d k x o ∷ fs) b bs v e =
      let q : record { number = k; list = list; rest = drop o x; calls = length (calls n base fs); opened = base + count (items n base fs); applied = base + count (since ++ items n base fs) } ≡ b = cc in
      subst (Reader (reads list since d k x o ∷ fs)) q (record { value = x; at = there v.2; within = v.3; rest = refl })

  pub advance_valid : (fs : List Frame) (b : Body) (bs : List Body) (x : ℕ) (r : Bytes) → Valid n base fs → bodies n base fs ≡ b ∷ bs → b.rest ≡ x ∷ r
      → Valid n base (advance fs)
  unfolding Valid advance bodies
  advance_valid [] b bs x r v e q = v
  advance_valid (made f name value spare ∷ fs) b bs x r v e q = advance_valid fs b bs x r v e q
  advance_valid (collects ended hand waits ∷ fs) b bs x r v e q = advance_valid fs b bs x r v e q
  advance_valid (reads list since d k w o ∷ fs) b bs x r v e q =
      let y : drop o w ≡ b.rest = cc in
      let l : length (drop o w) ≡ suc (length r) = ap length (y ∙ q) in
      (v.0, v.1, v.2, omega (arith, length-drop o w), v.4)

  -- Ending an argument -----------------------------------------------------------------------------------------------

  pub end_laid : (w : ℕ) (fs : List Frame) → Collects fs
      → (items n base (end_argument w fs) ≡ items n base fs) × (places n base (end_argument w fs) ≡ with_hand_at (places n base fs))
  unfolding laid end_argument calls
  end_laid w [] h = absurd (omega arith)
  end_laid w (made f name value spare ∷ fs) h = let r = end_laid w fs h in (rw r.0, r.1)
  end_laid w (collects ended hand waits ∷ fs) h =
      let l = (places n base fs).left in
      let a = arguments_last ended hand in
      let e : l + (4 + (arguments_price (ended ++ (hand ∷ [])) + 0)) ≡ l + (4 + (arguments_price ended + length hand)) + 1 = omega arith in
      let g : l + 3 + arguments_price (ended ++ (hand ∷ [])) ≡ l + (4 + (arguments_price ended + length hand)) = omega arith in
      (refl, rw (e, g))
  end_laid w (reads list since d k v o ∷ fs) h = let r = end_laid w fs h in (rw (r.0, r.1), rw (r.0, r.1))

  pub end_calls : (w : ℕ) (fs : List Frame) → calls n base (end_argument w fs) ≡ separate_head (calls n base fs)
  unfolding calls end_argument
  end_calls w [] = refl
  end_calls w (made f name value spare ∷ fs) = end_calls w fs
  end_calls w (collects ended hand waits ∷ fs) = refl
  end_calls w (reads list since d k v o ∷ fs) = end_calls w fs

  separate_length : (cs : List Call) → length (separate_head cs) ≡ length cs
  separate_length [] = refl
  separate_length (c ∷ cs) = refl

  pub end_bodies : (w : ℕ) (fs : List Frame) → Collects fs → bodies n base (end_argument w fs) ≡ bodies n base fs
  unfolding bodies end_argument calls
  end_bodies w [] h = absurd (omega arith)
  end_bodies w (made f name value spare ∷ fs) h = end_bodies w fs h
  end_bodies w (collects ended hand waits ∷ fs) h = refl
  end_bodies w (reads list since d k v o ∷ fs) h =
      rw (end_bodies w fs h, (end_laid w fs h).0, end_calls w fs, separate_length (calls n base fs))

  pub end_valid : (w : ℕ) (fs : List Frame) → Collects fs → Valid n base fs → Valid n base (end_argument w fs)
  unfolding Valid end_argument calls
  end_valid w [] h v = absurd (omega arith)
  end_valid w (made f name value spare ∷ fs) h v = end_valid w fs h v
  end_valid w (collects ended hand waits ∷ fs) h v = v
  end_valid w (reads list since d k x o ∷ fs) h v = rw (end_laid w fs h).0 (end_valid w fs h v.0, v.1, v.2, v.3, v.4)

  -- the cells of the left stack before the innermost call's argument in hand, the cell that waits for its length, and its bytes
  pub record Hand (fs : List Frame) : Type 0 where
    pub before : List ℕ
    pub waits : ℕ
    pub hand : Bytes
    pub is : lefts n base fs ≡ before ++ (waits ∷ hand)
    pub at : (places n base fs).hand ≡ length before
    pub ended : (w : ℕ) → lefts n base (end_argument w fs) ≡ before ++ (length hand ∷ (hand ++ (w ∷ [])))

  pub hand_of : (fs : List Frame) → Collects fs → Hand fs
  unfolding lefts end_argument calls laid
  hand_of [] h = absurd (omega arith)
  hand_of (made f name value spare ∷ fs) h = let r = hand_of fs h in record { before = r.before; waits = r.waits; hand = r.hand; is = r.is; at = r.at; ended = r.ended }
  hand_of (collects ended hand waits ∷ fs) h =
      let p = places n base fs in
      let head : List ℕ = address n (items n base fs) ∷ p.list ∷ packed p.hand p.call ∷ [] in
      record {
        before = lefts n base fs ++ (head ++ encode_arguments ended);
        waits = waits;
        hand = hand;
        is = sym (append_assoc (lefts n base fs) (head ++ encode_arguments ended) (waits ∷ hand));
        at = omega (arith, length-append (lefts n base fs) (head ++ encode_arguments ended), arguments_size ended, left_is n base fs);
        ended = λ w.
            ap (λ (x : List ℕ). lefts n base fs ++ (head ++ x))
            (ap (λ (x : List ℕ). x ++ (w ∷ [])) (encode_arguments_last ended hand)
            ∙ append_assoc (encode_arguments ended) (length hand ∷ hand) (w ∷ []))
            ∙ sym (append_assoc (lefts n base fs) (head ++ encode_arguments ended) (length hand ∷ (hand ++ (w ∷ []))));
      }
  hand_of (reads list since d k v o ∷ fs) h = let r = hand_of fs h in record { before = r.before; waits = r.waits; hand = r.hand; is = r.is; at = r.at; ended = r.ended }

  -- Definitions made -------------------------------------------------------------------------------------------------

  pub made_laid : (since : List Item) (fs : List Frame) → Definitions since
      → (items n base (made_all since fs) ≡ since ++ items n base fs) × (places n base (made_all since fs) ≡ places n base fs)
  unfolding laid made_all Definitions
  made_laid [] fs h = (refl, refl)
  made_laid (defined f name value spare ∷ since) fs h = let r = made_laid since fs h in (rw r.0, r.1)
  made_laid (listed to links reader list ∷ since) fs h = absurd h

  pub made_lefts : (since : List Item) (fs : List Frame) → lefts n base (made_all since fs) ≡ lefts n base fs
  unfolding lefts made_all
  made_lefts [] fs = refl
  made_lefts (defined f name value spare ∷ since) fs = made_lefts since fs
  made_lefts (listed to links reader list ∷ since) fs = made_lefts since fs

  pub made_calls : (since : List Item) (fs : List Frame) → calls n base (made_all since fs) ≡ calls n base fs
  unfolding calls made_all
  made_calls [] fs = refl
  made_calls (defined f name value spare ∷ since) fs = made_calls since fs
  made_calls (listed to links reader list ∷ since) fs = made_calls since fs

  pub made_bodies : (since : List Item) (fs : List Frame) → bodies n base (made_all since fs) ≡ bodies n base fs
  unfolding bodies made_all
  made_bodies [] fs = refl
  made_bodies (defined f name value spare ∷ since) fs = made_bodies since fs
  made_bodies (listed to links reader list ∷ since) fs = made_bodies since fs

  pub made_valid : (since : List Item) (fs : List Frame) → Valid n base fs → Valid n base (made_all since fs)
  unfolding Valid made_all
  made_valid [] fs v = v
  made_valid (defined f name value spare ∷ since) fs v = made_valid since fs v
  made_valid (listed to links reader list ∷ since) fs v = made_valid since fs v

  pub unmade_valid : (since : List Item) (fs : List Frame) → Valid n base (made_all since fs) → Valid n base fs
  unfolding Valid made_all
  unmade_valid [] fs v = v
  unmade_valid (defined f name value spare ∷ since) fs v = unmade_valid since fs v
  unmade_valid (listed to links reader list ∷ since) fs v = unmade_valid since fs v

  -- The innermost frame ----------------------------------------------------------------------------------------------

  -- a call begun in the body being read is open: it is the innermost frame, but for what was defined since
  pub record OwnCall (fs : List Frame) : Type 0 where
    pub since : List Item
    pub ended : List Bytes
    pub hand : Bytes
    pub waits : ℕ
    pub under : List Frame
    pub definitions : Definitions since
    pub is : fs ≡ made_all since (collects ended hand waits ∷ under)

  pub own_call_of : (fs : List Frame) → calls_below (bodies n base fs) < length (calls n base fs) → OwnCall fs
  unfolding calls bodies made_all Definitions
  own_call_of [] h = absurd (omega arith)
  own_call_of (made f name value spare ∷ fs) h =
      let r = own_call_of fs h in
      record {
        since = defined f name value spare ∷ r.since;
        ended = r.ended;
        hand = r.hand;
        waits = r.waits;
        under = r.under;
        definitions = r.definitions;
        is = ap (λ (x : List Frame). made f name value spare ∷ x) r.is;
      }
  own_call_of (collects ended hand waits ∷ fs) h = record { since = []; ended = ended; hand = hand; waits = waits; under = fs; definitions = tt; is = refl }
  own_call_of (reads list since d k v o ∷ fs) h = absurd (omega arith)

  -- no such call is open: the body being read is the innermost frame, but for what was defined since
  pub record OwnBody (fs : List Frame) : Type 0 where
    pub since : List Item
    pub list : List Bytes
    pub collected : List Item
    pub at : ℕ
    pub number : ℕ
    pub value : Bytes
    pub offset : ℕ
    pub under : List Frame
    pub definitions : Definitions since
    pub is : fs ≡ made_all since (reads list collected at number value offset ∷ under)

  pub own_body_of : (fs : List Frame) (b : Body) (bs : List Body) → bodies n base fs ≡ b ∷ bs → length (calls n base fs) ≤ calls_below (bodies n base fs) → OwnBody fs
  unfolding calls bodies made_all Definitions
  own_body_of [] b bs e h = let z : ◌≡◌ {A = ℕ} 0 1 = cc in absurd (omega arith)
  own_body_of (made f name value spare ∷ fs) b bs e h =
      let r = own_body_of fs b bs e h in
      record {
        since = defined f name value spare ∷ r.since;
        list = r.list;
        collected = r.collected;
        at = r.at;
        number = r.number;
        value = r.value;
        offset = r.offset;
        under = r.under;
        definitions = r.definitions;
        is = ap (λ (x : List Frame). made f name value spare ∷ x) r.is;
      }
  own_body_of (collects ended hand waits ∷ fs) b bs e h = let k = below_is n base fs in absurd (omega arith)
  own_body_of (reads list since d k v o ∷ fs) b bs e h =
      record { since = []; list = list; collected = since; at = d; number = k; value = v; offset = o; under = fs; definitions = tt; is = refl }
