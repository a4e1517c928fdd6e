-- More depth never takes an end away.
use Prim.Native.Nat.{ℕ, zero, suc, ◌+◌}
use native.Mathlib.Nat.{add-zero, add-suc}
use native.Mathlib.Omega.{arith}
use mathlib.Core.Path.{◌≡◌}
use mathlib.Core.Bool.{Bool, true, false}
use mathlib.Core.List.{List, [], ◌∷◌}
use Rattle.std.specs.Prelude.{Option, None, Some}
use lib.ListN.{length}
use lib.Dec.{ltb}
use Rattle.language.specs.Signs.{Bytes, Language, Meaning, copied, left_out, opens, separates, applies, fetches, unquotes, meaning}
use Rattle.language.specs.Definitions.{Definition}
use Rattle.language.specs.BuiltIns.{Deed, reads, defines, gives, alters, faulty, deed, parameter}
use Rattle.language.specs.Charge.{end_price}
use Rattle.language.specs.Ends.{End}
use Rattle.language.specs.Substitution.{Handed, Held, Result, stretch, finish, deeper, ◌then◌, Source, text, body, Collecting, no_call, outer, own, Eval, Go, within, eval, substituted, ended, fresh}
use Rattle.language.specs.Substitution as R

-- the second result is the first, or the first is no answer yet
pub data Below : Result → Result → Type 0 where
  unknown : {r : Result} → Below deeper r
  same : {r : Result} → Below r r

after : (r : Result) {f f' : Bytes → Held → Result} → ((x : Bytes) (h : Held) → Below (f x h) (f' x h)) → Below (r then f) (r then f')
after (stretch x h) k = k x h
after (finish e) k = same
after deeper k = unknown

below_then : {r r' : Result} {f f' : Bytes → Held → Result} → Below r r' → ((x : Bytes) (h : Held) → Below (f x h) (f' x h)) → Below (r then f) (r' then f')
below_then unknown k = unknown
below_then (same {r = r}) k = after r k

EvalBelow : Eval → Eval → Type 0
EvalBelow ev ev' = (src : Source) (c : Collecting) (reading : List ℕ) (r : Bytes) (x : Handed) → Below (ev src c reading r x) (ev' src c reading r x)

GoBelow : Go → Go → Type 0
GoBelow go go' = (q : ℕ) (r : Bytes) (h : Held) → Below (go q r h) (go' q r h)

module _ (ev ev' : Eval) (up : EvalBelow ev ev') (go go' : Go) (on : GoBelow go go') where
  perform_below : (D : Deed) (c : Collecting) (reading : List ℕ) (stood : ℕ) (list : List Bytes) (r : Bytes) (h : Held) (x : Handed)
      → Below (R.perform ev go D c reading stood list r h x) (R.perform ev' go' D c reading stood list r h x)
  unfolding EvalBelow GoBelow
  perform_below (reads k w) c reading stood list r h x = below_then (up (body list) (R.around c) (k ∷ reading) w x) λ r₂ h₂. on 0 r _
  perform_below (defines n w) c reading stood list r h x = on 0 r _
  perform_below (gives bs) c reading stood list r h x = on 0 r _
  perform_below (alters k change) c reading stood list r h x = on 0 r _
  perform_below (faulty n) c reading stood list r h x = same

  apply_none_below : (src : Source) (c : Collecting) (b : ℕ) (r : Bytes) (h : Held) → Below (R.apply_none ev go src c b r h) (R.apply_none ev' go' src c b r h)
  unfolding GoBelow
  apply_none_below text c b r h = on 0 r _
  apply_none_below (body list) c b r h = same

  apply_below : (src : Source) (c : Collecting) (b : ℕ) (r : Bytes) (h : Held) → Below (R.apply ev go src c b r h) (R.apply ev' go' src c b r h)
  apply_below src own b r h = same
  apply_below src no_call b r h = apply_none_below src no_call b r h
  apply_below src outer b r h = apply_none_below src outer b r h

  supplied_below : (t : Bool) (c : Collecting) (p r : Bytes) (h : Held) → Below (R.fetch_supplied ev go t c p r h) (R.fetch_supplied ev' go' t c p r h)
  unfolding GoBelow
  supplied_below true c p r h = on 0 r _
  supplied_below false c p r h = same

  number_below : (j : Option ℕ) (list : List Bytes) (c : Collecting) (r : Bytes) (h : Held)
      → Below (R.fetch_number ev go j list c r h) (R.fetch_number ev' go' j list c r h)
  number_below None list c r h = same
  number_below (Some k) list c r h = supplied_below (ltb k (length list)) c (parameter k list) r h

  fetch_below : (G : Language) (src : Source) (c : Collecting) (b : ℕ) (r : Bytes) (h : Held)
      → Below (R.fetch ev go G src c b r h) (R.fetch ev' go' G src c b r h)
  unfolding GoBelow
  fetch_below G text no_call b r h = on 0 r _
  fetch_below G text outer b r h = same
  fetch_below G text own b r h = same
  fetch_below G (body list) c b [] h = same
  fetch_below G (body list) c b (x ∷ r) h = number_below (G.parameter_number x) list c r h

  unquote_below : (src : Source) (c : Collecting) (b : ℕ) (r : Bytes) (h : Held) → Below (R.unquote ev go src c b r h) (R.unquote ev' go' src c b r h)
  unfolding GoBelow
  unquote_below text no_call b r h = same
  unquote_below text outer b r h = same
  unquote_below text own b r h = same
  unquote_below (body list) c b r h = on 0 r _

  byte_below : (G : Language) (M : Meaning) (src : Source) (c : Collecting) (reading : List ℕ) (b : ℕ) (r : Bytes) (h : Held)
      → Below (R.byte ev go G M src c reading b r h) (R.byte ev' go' G M src c reading b r h)
  unfolding GoBelow EvalBelow
  byte_below G (copied q) src c reading b r h = on q r _
  byte_below G (left_out q) src c reading b r h = on q r h
  byte_below G opens src c reading b r h =
      below_then (up src own reading r _) λ r₁ h₁.
      let x = R.charged end_price h₁.handed in
      let list = R.list_of h₁.value in
      perform_below (deed reading list x.definitions) c reading (length h.handed.definitions) list r₁ h x
  byte_below G separates src c reading b r h = on 0 r _
  byte_below G applies src c reading b r h = apply_below src c b r h
  byte_below G fetches src c reading b r h = fetch_below G src c b r h
  byte_below G unquotes src c reading b r h = unquote_below src c b r h

module _ (G : Language) where
  within_below : (ev ev' : Eval) → EvalBelow ev ev' → (src : Source) (c : Collecting) (reading : List ℕ) (n : ℕ)
      → GoBelow (within G ev src c reading n) (within G ev' src c reading n)
  unfolding within GoBelow
  within_below ev ev' up src c reading zero q [] h = same
  within_below ev ev' up src c reading zero q (b ∷ r) h = unknown
  within_below ev ev' up src c reading (suc n) q [] h = same
  within_below ev ev' up src c reading (suc n) q (b ∷ r) h =
      byte_below ev ev' up (within G ev src c reading n) (within G ev' src c reading n) (within_below ev ev' up src c reading n) G (meaning G.table q b) src c reading b r _

  eval_below : (d : ℕ) → EvalBelow (eval G d) (eval G (suc d))
  unfolding eval EvalBelow GoBelow
  eval_below zero src c reading r x = unknown
  eval_below (suc d) src c reading r x = within_below (eval G d) (eval G (suc d)) (eval_below d) src c reading (length r) 0 r (fresh x)

  ended_below : {r r' : Result} {e : End} → Below r r' → ended r ≡ Some e → ended r' ≡ Some e
  ended_below unknown p = let z : ◌≡◌ {A = ℕ} 0 1 = cc in absurd (omega arith)
  ended_below same p = p

  -- more depth never takes an end away
  pub depth_more : (t : Bytes) (ds : List Definition) (d k : ℕ) (e : End) → substituted G d t ds ≡ Some e → substituted G (d + k) t ds ≡ Some e
  unfolding substituted EvalBelow
  depth_more t ds d zero e p = rw (add-zero d) p
  depth_more t ds d (suc k) e p = rw (add-suc d k) (ended_below (eval_below (d + k) text no_call [] t (R.start ds)) (depth_more t ds d k e p))
