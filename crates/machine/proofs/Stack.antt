-- Laws about frames.
use Prim.Native.Nat.{ℕ, ◌≤◌, zero-le}
use native.Mathlib.Omega.{arith}
use mathlib.Core.Path.{◌≡◌, refl}
use mathlib.Core.List.{List, [], ◌∷◌}
use lib.ListN.{length, length-append}
use Rattle.language.specs.Scanning.{calls_below}
use Rattle.machine.specs.Walks.{nowhere, packed}
use Rattle.machine.specs.Items.{encode_call}
use Rattle.machine.specs.Frames.{Frame, made, collects, reads, address, laid, items, places, lefts, calls, bodies}
use Rattle.machine.proofs.Items.{call_size}

module _ (n base : ℕ) where
  -- the left stack ends where its cells do
  pub left_is : (fs : List Frame) → (places n base fs).left ≡ length (lefts n base fs)
  unfolding laid lefts
  left_is [] = refl
  left_is (made f name value spare ∷ fs) = left_is fs
  left_is (collects ended hand waits ∷ fs) =
      let h = left_is fs in
      omega (
        arith,
        call_size (address n (items n base fs)) (places n base fs).list (packed (places n base fs).hand (places n base fs).call) waits ended hand,
        length-append (lefts n base fs) (encode_call (address n (items n base fs)) (places n base fs).list (packed (places n base fs).hand (places n base fs).call) waits ended hand),
      )
  left_is (reads list since d k v o ∷ fs) = left_is fs

  -- no fewer calls are open than when the innermost body began
  pub below_is : (fs : List Frame) → calls_below (bodies n base fs) ≤ length (calls n base fs)
  unfolding calls bodies
  below_is [] = zero-le
  below_is (made f name value spare ∷ fs) = below_is fs
  below_is (collects ended hand waits ∷ fs) = let h = below_is fs in omega arith
  below_is (reads list since d k v o ∷ fs) = omega arith

  -- no call, and no body
  pub no_call : (fs : List Frame) → calls n base fs ≡ [] → (places n base fs).call ≡ nowhere
  unfolding laid calls
  no_call [] e = refl
  no_call (made f name value spare ∷ fs) e = no_call fs e
  no_call (collects ended hand waits ∷ fs) e = let z : ◌≡◌ {A = ℕ} 0 1 = cc in absurd (omega arith)
  no_call (reads list since d k v o ∷ fs) e = no_call fs e

  pub in_text : (fs : List Frame) → bodies n base fs ≡ [] → (places n base fs).list ≡ nowhere
  unfolding laid bodies
  in_text [] e = refl
  in_text (made f name value spare ∷ fs) e = in_text fs e
  in_text (collects ended hand waits ∷ fs) e = in_text fs e
  in_text (reads list since d k v o ∷ fs) e = let z : ◌≡◌ {A = ℕ} 0 1 = cc in absurd (omega arith)
