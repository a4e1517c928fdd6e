-- What the standing in cells says of the standing of the scanning.
use Prim.Native.Nat.{ℕ, ◌+◌, ◌-◌}
use native.Mathlib.Omega.{arith}
use mathlib.Core.Path.{◌≡◌, refl, ap, ◌∙◌}
use mathlib.Core.List.{List, [], ◌∷◌, ◌++◌}
use lib.ListN.{length, drop, length-append, length-drop}
use Rattle.language.specs.Definitions.{Definition}
use Rattle.language.specs.Charge.{list_price, definitions_price}
use Rattle.language.specs.Ends.{End}
use Rattle.language.specs.Scanning.{State, Standing, Step, next, stop}
use Rattle.language.specs.Scanning as S
use Rattle.language.specs.Expansion.{Lent}
use Rattle.language.proofs.Prices.{price_append}
use Rattle.machine.specs.declared.run.Run.{Run}
use Rattle.machine.specs.Walks.{packed, list_overhead}
use Rattle.machine.specs.declared.run.Answer.TheVariants.{GoesOn}
use Rattle.machine.specs.Machine.{After, Indexed}
use Rattle.machine.proofs.Items.{list_size, definition_size, width-append, width-cons, definitions-append}
use Rattle.machine.specs.Items.{Item, defined, listed, encode, width, definitions_of, Definitions}
use Rattle.machine.specs.Frames.{Places, Frame, made, collects, reads, address, list_item, laid, items, places, calls, bodies, Valid}
use Rattle.machine.specs.Held.{Lies, EndsAs, Represents}

pub data Simulates (n : ℕ) (older : List Definition) (heads whole start : List ℕ) (a : After) : Step → Type 0 where
  goes : {s : State} → a.answer ≡ GoesOn → Represents n older heads whole start a.run a.lent s → Simulates n older heads whole start a (next s)
  stops : {e : End} → EndsAs older start a e → Simulates n older heads whole start a (stop e)

-- the same of what a function leaves with the heads of the index
abbrev pub SimulatesIndexed : ℕ → List Definition → List ℕ → List ℕ → Indexed → Step → Type 0
SimulatesIndexed n older whole start x t = Simulates n older x.heads whole start x.after t

-- the output is as long as it was lent
pub output_size : {n : ℕ} {older : List Definition} {heads start : List ℕ} {its : List Item} {r : Run} {m : Lent} {w : Standing}
    → Lies n older heads start its r m w → length m.output ≡ length start
output_size {start = start} {w = w} h =
    ap length h.wrote.output
    ∙ omega (arith, length-append w.output (drop (length w.output) start), length-drop (length w.output) start, h.wrote.enough)

-- Charge -------------------------------------------------------------------------------------------------------------

module _ (n base : ℕ) where
  pub calls_charge : (fs : List Frame) → S.calls_charge (calls n base fs) ≡ (places n base fs).left
  unfolding S.calls_charge calls laid
  calls_charge [] = refl
  calls_charge (made f name value spare ∷ fs) = calls_charge fs
  calls_charge (collects ended hand waits ∷ fs) = let h = calls_charge fs in omega arith
  calls_charge (reads list since d k v o ∷ fs) = calls_charge fs

  pub definitions_width : (since : List Item) → Definitions since → width since ≡ definitions_price (definitions_of since)
  unfolding Definitions encode definitions_of definitions_price
  definitions_width [] h = refl
  definitions_width (defined f name value spare ∷ since) h =
      omega (arith, definitions_width since h, width-cons (defined f name value spare) since, definition_size f name value spare)
  definitions_width (listed to links reader list ∷ since) h = absurd h

  pub right_charge : (fs : List Frame) → Valid n base fs
      → S.bodies_charge (bodies n base fs) + definitions_price (definitions_of (items n base fs)) ≡ width (items n base fs)
  unfolding S.bodies_charge bodies laid Valid definitions_of definitions_price encode
  right_charge [] v = refl
  right_charge (made f name value spare ∷ fs) v =
      let h = right_charge fs v in
      omega (arith, width-cons (defined f name value spare) (items n base fs), definition_size f name value spare)
  right_charge (collects ended hand waits ∷ fs) v = right_charge fs v
  right_charge (reads list since d k x o ∷ fs) v =
      let h = right_charge fs v.0 in
      let i = items n base fs in
      let p = places n base fs in
      omega (
        arith,
        width-cons (list_item p (address n i) list) (since ++ i),
        list_size (address n i) (packed (list_price list - list_overhead) p.list) (packed p.body p.offset) list,
        width-append since i,
        definitions_width since v.1,
        price_append (definitions_of since) (definitions_of i),
        ap definitions_price (definitions-append since i),
      )

-- the charge that is carried is the one that the lists sum to
pub charge_is : {n : ℕ} {older : List Definition} {heads whole start : List ℕ} {r : Run} {m : Lent} {s : State}
    → definitions_price older ≡ 0 → Represents n older heads whole start r m s → S.charge s ≡ r.charge
charge_is {n} {older} z h =
    let b = length older in
    let f = h.frames in
    omega (
      arith,
      ap S.calls_charge h.calls_are,
      calls_charge n b f,
      ap S.bodies_charge h.bodies_are,
      right_charge n b f h.valid,
      ap definitions_price h.lies.stands.definitions,
      price_append (definitions_of (items n b f)) older,
      ap (λ (p : Places). p.left) h.places_are,
      h.lies.stands.right,
      h.in_use,
    )
