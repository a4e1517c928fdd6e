-- What an applied call does: a body read, or a built-in performed, as the scanning does it.
use Prim.Native.Nat.{ℕ, ◌+◌, ◌≤◌, ◌<◌}
use native.Mathlib.Omega.{arith}
use mathlib.Core.Path.{◌≡◌, refl, sym, ap, subst, ◌∙◌}
use mathlib.Core.Bool.{Bool, true, false, cond, true≢false}
use mathlib.Core.List.{List, [], ◌∷◌, ◌++◌, append-nil}
use lib.ListN.{length, take, drop, get_or, length-append}
use lib.Seq.{drop-drop, drop_at}
use lib.Dec.{ltb}
use borrow.Author.Tests.{ltb-true, ltb-false}
use Rattle.decimal.specs.declared.operations.Operation.{Operation}
use Rattle.decimal.specs.Arithmetic.{calculated}
use Rattle.decimal.specs.Shortest.{digits_of, digits, shortest}
use Rattle.std.proofs.Math.Seq.{take-length}
use Rattle.std.specs.Prelude.{ℤ, Option, None, Result, Ok, Err}
use Rattle.decimal.specs.declared.operations.Refusal.{Refusal}
use Rattle.decimal.specs.declared.operations.Refusal.TheVariants as Arithmetical
use Rattle.decimal.specs.Answers.{answer_of}
use Rattle.language.specs.Outcomes
use Rattle.language.specs.Signs.{Bytes, ascii}
use Rattle.language.specs.declared.built_ins.BuiltIn.{BuiltIn}
use Rattle.language.specs.declared.built_ins.BuiltIn.TheVariants.{Def, Val, Update, Arithmetic, Seq, Size, If, Lock}
use Rattle.language.specs.Definitions.{macro, built_in, Definition, Found, found, missing, Change, updates, locks, altered, oldest, among}
use Rattle.language.specs.Definitions as D
use Rattle.language.specs.BuiltIns.{built_ins, Deed, reads, defines, gives, alters, faulty, deed, deed_of, performed, definition_by, value_of, update_of, result_of, compared, lock_of, parameter, needs}
use Rattle.language.specs.BuiltIns as B
use Rattle.language.specs.Charge.{arguments_price}
use Rattle.language.specs.Matched.{All, empty, with}
use Rattle.language.specs.Scanning.{State, Step, next, Call, Body}
use Rattle.language.specs.Scanning as S
use Rattle.language.specs.Expansion.{limits_of, lent}
use Rattle.language.specs.Octets.{Octets, CallOctets, ContentOctets, HoldsOctets, DefinitionOctets}
use Rattle.language.proofs.Lists.{all_drop, all_chosen}
use Rattle.language.proofs.Demand.{built_ins_free}
use Rattle.memory.specs.Block.{block, placed, moved, copied, low_bytes}
use Rattle.memory.proofs.Blocks.{moved_in, copied_in, length-low_bytes}
use Rattle.machine.specs.declared.run.Run.{Run}
use Rattle.machine.specs.Walks.{nowhere, head_size, name_length, behind, argument, chosen, newest, is_read, compare, calculate, with_lock, room, with_value_length}
use Rattle.machine.specs.Machine as M
use Rattle.machine.proofs.Items.{encode-append, width-append}
use Rattle.machine.proofs.Moves.{made_all, made_laid, made_bodies, made_valid}
use Rattle.machine.proofs.Represents.{Simulates, SimulatesIndexed, goes, output_size}
use Rattle.machine.proofs.Finds.{HoldsItems, Defines, DefinitionAt, definition_at_lem, ArgumentAt, Supplied, argument_at, taken_below, argument_behind, argument_past, Newest, absent, present, newest_finds, is_read_finds}
use Rattle.machine.proofs.Fetching.{block-low, each}
use Rattle.machine.proofs.Altering.{alter, alter_items, alter_definitions_lem, alter_index, alter_append, alter_width, alter_count, alter_laid, alter_lefts, alter_calls, alter_bodies, KeepsRead, alter_valid, Spot, spot_of, stored, Fits, alter_definitions, Alters, update_alters, lock_alters, alter_size, alter_high, alter_low}
use Rattle.machine.proofs.Naming.{TextAt, argument_text, named_of, Own, unknown, known, built_ins_only, built_in_named_is, calculate_is}
use Rattle.machine.proofs.Words.{compare_is, Picked, nothing, picked, chosen_at}
use Rattle.machine.proofs.Applying.{Applied, list_of}
use Rattle.machine.proofs.Calling.{gone_index, arguments_at, links_is, right_to, to_above, freed, release_is, oldest_items, begun, moved_is}
use Rattle.machine.proofs.Giving.{refused as refusing, give_sim}
use Rattle.machine.proofs.Defining.{def_sim}
use Rattle.machine.specs.Items.{Item, defined, macro_of, width, encode, definitions_of, count}
use Rattle.machine.specs.Index.{Index}
use Rattle.machine.specs.Frames.{Places, Frame, address, At, items, places, calls, bodies, Valid}
use Rattle.language.specs.declared.outcomes.Outcome.TheVariants.{BodyBeingRead, EmptyName, Locked, NotDefined, NotSupplied, UpdateTooLong, NotANumber, DivisorZero, ResultOutOfRange}
use Rattle.language.specs.declared.outcomes.Outcome.TheVariants as Ends

-- a value that is found is of bytes
value_octets : (t : Bytes) (ds : List Definition) (k : ℕ) (m : D.Macro) → All DefinitionOctets ds → D.newest t ds ≡ found k (macro m) → Octets m.value
unfolding D.newest
value_octets t [] k m h e = let z : ◌≡◌ {A = ℕ} 0 1 = cc in absurd (omega arith)
value_octets t (d ∷ ds) k m (with x h) e = go (D.same t d.name) e (λ q. value_octets t ds k m h q)
  where
    go : (y : Bool) → cond y (found (length ds) d.content) (D.newest t ds) ≡ found k (macro m) → (D.newest t ds ≡ found k (macro m) → Octets m.value) → Octets m.value
    go true e ih = let q : d.content ≡ macro m = cc in subst ContentOctets q x.content
    go false e ih = ih e

module _ {n : ℕ} {heads whole start : List ℕ} {r : Run} {l o : List ℕ} {s : State} (a : Applied n built_ins heads whole start r (lent l o) s) (oct : HoldsOctets s) where
  -- what is left is what the scanning says, with the index
  abbrev Sim : M.Indexed → Step → Type 0
  Sim x t = SimulatesIndexed n built_ins whole start x t

  -- once what was defined since the `$` is taken out of it
  abbrev Ended : M.After → Step → Type 0
  Ended x t = Sim (M.unindexed r heads x) t

  abbrev b : ℕ
  b = length built_ins

  abbrev U : List Item
  U = items n b a.under

  abbrev its : List Item
  its = a.since ++ U

  abbrev list : List Bytes
  list = list_of a

  abbrev name : ℕ
  name = r.calls.call + 3

  abbrev c : Call
  c = record { ended = a.ended; hand = a.hand; stood = b + count U }

  abbrev cs : List Call
  cs = calls n b a.under

  abbrev gs : List Frame
  gs = made_all a.since a.under

  gs_laid : (items n b gs ≡ its) × (places n b gs ≡ places n b a.under)
  gs_laid = made_laid n b a.since a.under a.definitions

  holds : HoldsItems n l r.right (items n b gs)
  holds = rw gs_laid.0 (record { size = a.lies.stands.size; cells_lent = a.cells_lent; ends = a.lies.stands.right; cells = a.lies.stands.cells })

  gs_valid : Valid n b gs
  gs_valid = made_valid n b a.since a.under a.valid

  list_gs : r.source.list ≡ (places n b gs).list
  list_gs = a.list_is ∙ ap (λ (p : Places). p.list) (sym gs_laid.1)

  body_gs : r.source.body ≡ (places n b gs).body
  body_gs = a.body_is ∙ ap (λ (p : Places). p.body) (sym gs_laid.1)

  -- the arguments are of bytes
  list_octets : All Octets list
  list_octets = go s.calls a.calls_are oct.calls
    where
      last : (x : List Bytes) (y : Bytes) → All Octets x → Octets y → All Octets (x ++ (y ∷ []))
      last [] y empty h = with h empty
      last (z ∷ x) y (with g k) h = with g (last x y k h)

      go : (ks : List Call) → ks ≡ c ∷ cs → All CallOctets ks → All Octets list
      go [] e h = let z : ◌≡◌ {A = ℕ} 0 1 = cc in absurd (omega arith)
      go (k ∷ ks) e (with x h) =
          let q : k ≡ c = cc in
          let y = subst CallOctets q x in
          last a.ended a.hand y.ended y.hand

  priced : arguments_price list ≤ 65536
  priced = omega (arith, a.left_is, a.room, a.lies.stands.right, a.cells_lent)

  -- no argument stands at nowhere
  elsewhere : (k : ℕ) → k < length list → name + arguments_price (take k list) ≡ nowhere → ⊥
  elsewhere k h e = omega (arith, taken_below k list h, a.left_is, a.room, a.lies.stands.right, a.cells_lent)

  -- argument k of the call, in the cells
  argument_is : (k : ℕ) → k < length list → Supplied l name list k
  argument_is k h = argument_at l name list (drop (r.calls.left + 1) l) k (arguments_at a) priced (elsewhere k h) h

  argument_not : (k : ℕ) → length list ≤ k → argument l name k ≡ None
  argument_not k h = argument_past l name list (drop (r.calls.left + 1) l) k (arguments_at a) priced h

  first_is : 1 < length list → ArgumentAt l name list 1 (behind l name)
  first_is h = argument_behind l name list (drop (r.calls.left + 1) l) (arguments_at a) priced h

  text_is : {k q : ℕ} → ArgumentAt l name list k q → TextAt l q (parameter k list)
  text_is x = argument_text x (omega (arith, a.left_is, a.room, a.lies.stands.right, a.lies.stands.size))

  named : 0 < length list
  named = omega (arith, length-append a.ended (a.hand ∷ []))

  name_text : TextAt l name (parameter 0 list)
  unfolding arguments_price
  name_text =
      let x = argument_is 0 named in
      let e : x.at ≡ name = x.is.place ∙ omega arith in
      subst (λ (k : ℕ). TextAt l k (parameter 0 list)) e (text_is x.is)

  -- A name looked up -------------------------------------------------------------------------------------------------

  found' : (q : ℕ) (t : Bytes) → TextAt l q t → Newest n b l r.right its t (newest l heads q)
  found' q t x =
      rw gs_laid.0 at (newest_finds gs gs_valid holds {heads = heads} q t (rw gs_laid.0 a.lies.indexed) x.counted x.bytes (omega (arith, x.within, a.lies.stands.size)))

  definitions_are : s.standing.definitions ≡ definitions_of its ++ built_ins
  definitions_are = a.lies.stands.definitions

  -- A body is read ---------------------------------------------------------------------------------------------------

  read_sim : (d k : ℕ) (m : D.Macro) → Defines n b l r.right its d k (parameter 0 list) m
      → Simulates n built_ins heads whole start (M.read_body r d (lent l o)) (S.perform (limits_of n (length start)) (reads k m.value) c cs s)
  read_sim d k m D = let v = m.value in rw (links_is a, moved_is a d k v D.at) (goes refl (begun a d k v D.at named))

  -- Results ----------------------------------------------------------------------------------------------------------

  -- bytes that stand in a source are given: from one to the call around, from the other to the output
  source_sim : (v : Bytes) (from : ℕ) (inner outer : List ℕ) → from + length v ≤ length inner → block from (length v) inner ≡ v
      → from + length v ≤ length outer → block from (length v) outer ≡ v
      → Ended
      (M.placing (M.give r (length v) (lent l o))
      (cond (M.is_outer r l) (lent l (copied from r.counts.written (length v) outer o)) (lent (copied from r.calls.call (length v) inner l) o)))
      (S.perform (limits_of n (length start)) (gives v) c cs s)
  source_sim v from inner outer fits is fits₂ is₂ =
      give_sim built_ins_free a v (copied from r.calls.call (length v) inner l) (copied from r.counts.written (length v) outer o)
      (λ e. copied_in from r.calls.call (length v) inner l fits (omega (arith, a.lies.stands.size, a.in_use, a.left_is, a.room, a.lies.stands.right)) ∙ ap (λ (y : List ℕ). placed r.calls.call y l) is)
      (λ e. copied_in from r.counts.written (length v) outer o fits₂ (omega (arith, output_size a.lies, a.lies.wrote.written)) ∙ ap (λ (y : List ℕ). placed r.counts.written y o) is₂)

  -- a block of cells gives the bytes that stand in it, also where these lie in the list that goes
  block_sim : (from : ℕ) (v : Bytes) → from + length v ≤ n → block from (length v) l ≡ v → Octets v
      → Ended (M.give_block r from (length v) (lent l o)) (S.perform (limits_of n (length start)) (gives v) c cs s)
  block_sim from v fit is vo =
      source_sim v from l (low_bytes l) (omega (arith, a.lies.stands.size)) is (omega (arith, a.lies.stands.size, length-low_bytes l)) (block-low from v l is vo)

  -- a decimal gives its text
  decimal_sim : (bs : Bytes)
      → Ended (M.give_decimal r bs (lent l o)) (S.perform (limits_of n (length start)) (gives bs) c cs s)
  decimal_sim bs = source_sim bs 0 bs bs (omega arith) (take-length bs) (omega arith) (take-length bs)

  -- DEF --------------------------------------------------------------------------------------------------------------

  -- "33 .. for an empty name at DEF", or the definition
  definition_sim : {first second : ℕ} → ArgumentAt l name list 1 first → ArgumentAt l name list 2 second → (long : 2 < length list)
      → Sim (M.def r first second heads (lent l o))
      (S.perform (limits_of n (length start)) (definition_by (parameter 1 list) (parameter 2 list)) c cs s)
  definition_sim {first} {second} name_at value_at long = go (parameter 1 list) refl
    where
      go : (t : Bytes) → parameter 1 list ≡ t
          → Sim (M.def r first second heads (lent l o))
          (S.perform (limits_of n (length start)) (definition_by t (parameter 2 list)) c cs s)
      go [] e = rw (name_at.counted ∙ ap length e) (refusing built_ins_free a EmptyName)
      go (x ∷ t) e =
          subst (λ (u : Bytes). Sim (M.def r first second heads (lent l o)) (S.perform (limits_of n (length start)) (defines u (parameter 2 list)) c cs s))
          e (def_sim a name_at value_at long (omega (arith, ap length e)))

  -- VAL --------------------------------------------------------------------------------------------------------------

  -- "15, 19": a name that no definition has
  refuse_sim : (q : ℕ) (t : Bytes) → TextAt l q t → (F : Found) → Own F → D.newest t built_ins ≡ F
      → (f : Found → Deed) → f missing ≡ faulty Outcomes.not_defined → ((k : ℕ) (bi : BuiltIn) → f (found k (built_in bi)) ≡ faulty Outcomes.built_in)
      → Ended (M.refuse_name r q (lent l o)) (S.perform (limits_of n (length start)) (f F) c cs s)
  refuse_sim q t x F unknown e f m k = rw (built_in_named_is x ∙ ap named_of e, m) (refusing built_ins_free a NotDefined)
  refuse_sim q t x F (known j bi) e f m k = rw (built_in_named_is x ∙ ap named_of e, k j bi) (refusing built_ins_free a Ends.BuiltIn)

  -- a name that is given is looked up: "15, 19", or what is done with the definition that is found
  given_sim : {q : ℕ} → TextAt l q (parameter 1 list) → (f : Found → Deed) → f missing ≡ faulty Outcomes.not_defined
      → ((k : ℕ) (bi : BuiltIn) → f (found k (built_in bi)) ≡ faulty Outcomes.built_in) → (done : ℕ → M.After)
      → ((d k : ℕ) (m : D.Macro) → Defines n b l r.right its d k (parameter 1 list) m → D.newest (parameter 1 list) s.standing.definitions ≡ found k (macro m)
      → Ended (done d) (S.perform (limits_of n (length start)) (f (found k (macro m))) c cs s))
      → Ended
      (M.given r q done (newest l heads q) (lent l o))
      (S.perform (limits_of n (length start)) (f (D.newest (parameter 1 list) s.standing.definitions)) c cs s)
  given_sim {q} x f unfound builtin done does = go (found' q t x)
    where
      t : Bytes
      t = parameter 1 list

      go : {d : Option ℕ} → Newest n b l r.right its t d
          → Ended (M.given r q done d (lent l o)) (S.perform (limits_of n (length start)) (f (D.newest t s.standing.definitions)) c cs s)
      go (absent h) =
          let g : D.newest t s.standing.definitions ≡ D.newest t built_ins = ap (D.newest t) definitions_are ∙ h built_ins in
          rw g (refuse_sim q t x (D.newest t built_ins) (built_ins_only t) refl f unfound builtin)
      go (present {d} {k} {c = m} at h) =
          let g : D.newest t s.standing.definitions ≡ found k (macro m) = ap (D.newest t) definitions_are ∙ h built_ins refl in
          rw g (does d k m at g)

  val_sim : {q : ℕ} → TextAt l q (parameter 1 list)
      → Ended (M.val r q heads (lent l o))
      (S.perform (limits_of n (length start)) (value_of (D.newest (parameter 1 list) s.standing.definitions)) c cs s)
  val_sim x =
      given_sim x value_of refl (λ k bi. refl) (λ d. M.val_at r d (lent l o)) λ d k m at g.
      let from = d + head_size + length (parameter 1 list) in
      let vo : Octets m.value = value_octets (parameter 1 list) s.standing.definitions k m oct.definitions g in
      let fit : from + length m.value ≤ n = omega (arith, at.within, at.cells.fits) in
      rw (at.cells.named, at.cells.valued) (block_sim from m.value fit at.cells.value_is vo)

  -- UPDATE and LOCK --------------------------------------------------------------------------------------------------

  -- the items that a name is looked up among
  holds_its : HoldsItems n l r.right its
  holds_its = record { size = a.lies.stands.size; cells_lent = a.cells_lent; ends = a.lies.stands.right; cells = a.lies.stands.cells }

  -- the cells of a definition, by where it stands among the items
  spot_cells : (d k : ℕ) (v : Bytes) (spot : Spot n b its d k v) → DefinitionAt l d spot.name (macro_of spot.lock v spot.spare)
  spot_cells d k v spot =
      let I = defined spot.lock spot.name v spot.spare in
      let w = width-append spot.newer (I ∷ spot.older) in
      let x : width its ≡ width (spot.newer ++ (I ∷ spot.older)) = ap width spot.is in
      let e : d ≡ r.right + width spot.newer = omega (arith, spot.at, a.lies.stands.right) in
      definition_at_lem l d spot.lock spot.name v spot.spare spot.older []
      (ap (λ (j : ℕ). drop j l) e
      ∙ sym (drop-drop (width spot.newer) r.right l)
      ∙ ap (drop (width spot.newer)) (a.lies.stands.cells ∙ ap encode spot.is ∙ encode-append spot.newer (I ∷ spot.older))
      ∙ drop_at (encode spot.newer) (encode (I ∷ spot.older)) (width spot.newer) refl
      ∙ sym (append-nil (encode (I ∷ spot.older))))

  -- a definition is changed where it stands, and the list goes
  alter_sim : (d k : ℕ) (v : Bytes) (spot : Spot n b its d k v) (h : Change) → Fits h (length v + length spot.spare)
      → KeepsRead n b k h (S.reading s.bodies) → (l' : List ℕ) → Alters k h b its r.right l l'
      → Ended
      (record { run = (M.release r 0 (lent l o)).run; answer = (M.release r 0 (lent l o)).answer; lent = lent l' o })
      (next (S.with_calls cs (S.with_definitions (oldest (b + count U) (altered k h s.standing.definitions)) s)))
  alter_sim d k v spot h fit kept l' cellsEq =
      let fs' = alter n b k h a.under in
      let A = alter_items k h (b + count U) a.since in
      let K = alter_items k h b U in
      let splitEq : alter_items k h b its ≡ A ++ K = alter_append k h b a.since U in
      let high' : drop r.right l' ≡ encode A ++ encode K = alter_high holds_its cellsEq ∙ ap encode splitEq ∙ encode-append A K in
      let widthA : width A ≡ width a.since = alter_width k h (b + count U) a.since in
      let toEq : r.right + width A ≡ address n U = omega (arith, right_to a) in
      let hi : drop (address n U) l' ≡ encode K =
      ap (λ (j : ℕ). drop j l') (sym toEq)
      ∙ sym (drop-drop (width A) r.right l')
      ∙ ap (drop (width A)) high'
      ∙ drop_at (encode A) (encode K) (width A) refl in
      let al = alter_laid n b k h a.under in
      let kept₂ : KeepsRead n b k h (S.reading (bodies n b a.under)) = subst (λ (j : List Body). KeepsRead n b k h (S.reading j)) a.bodies_are kept in
      let ds : oldest (b + count U) (altered k h s.standing.definitions) ≡ definitions_of K ++ built_ins =
      ap (λ (j : List Definition). oldest (b + count U) (altered k h j)) definitions_are
      ∙ ap (oldest (b + count U)) (sym (alter_definitions spot h fit built_ins refl) ∙ ap (λ (j : List Item). definitions_of j ++ built_ins) splitEq)
      ∙ ap (λ (j : ℕ). oldest (b + j) (definitions_of (A ++ K) ++ built_ins)) (sym (alter_count k h b U))
      ∙ oldest_items A K built_ins in
      let e = to_above a in
      let rel = release_is a r 0 o refl refl refl in
      rw rel
      (goes refl
      (freed a fs' l' (oldest (b + count U) (altered k h s.standing.definitions))
      (alter_valid n b k h a.under kept₂ a.valid)
      al.1 (alter_lefts n b k h a.under) (alter_calls n b k h a.under) (alter_bodies n b k h a.under)
      (alter_size holds_its cellsEq)
      (alter_low holds_its cellsEq r.calls.call (omega (arith, a.left_is, a.room)))
      (ap width al.0 ∙ alter_width k h b U)
      (hi ∙ ap encode (sym al.0))
      (ds ∙ ap (λ (j : List Item). definitions_of j ++ built_ins) (sym al.0))
      (ap count al.0 ∙ alter_count k h b U)
      (rw al.0 (gone_index a A K l' (alter_definitions_lem k h (b + count U) a.since a.definitions) widthA (alter_size holds_its cellsEq) high'
      (subst (λ (j : List Item). Index n j heads) splitEq (alter_index k h n b its heads a.lies.indexed))))))

  -- the value where the definition stands
  store_sim : (d k : ℕ) (m : D.Macro) (t w : Bytes) (y : ℕ) → Defines n b l r.right its d k t m → TextAt l y w → length w ≤ m.room
      → among k (S.reading s.bodies) ≡ false
      → Ended
      (record {
        run = (M.release r 0 (lent l o)).run;
        answer = (M.release r 0 (lent l o)).answer;
        lent = lent (with_value_length (moved (y + 1) (d + head_size + name_length l d) (get_or l y 0) l) d (get_or l y 0)) o;
      })
      (S.perform (limits_of n (length start)) (alters k (updates w)) c cs s)
  store_sim d k m t w y at x fits quiet =
      let v = m.value in
      let spot = spot_of at.at in
      let own = spot_cells d k v spot in
      let roomEq : m.room ≡ length v + length spot.spare = sym at.cells.roomy ∙ own.roomy in
      let fit : length w ≤ length v + length spot.spare = omega arith in
      let nameEq : length spot.name ≡ length t = sym own.named ∙ at.cells.named in
      let target = d + head_size + length spot.name in
      let cellsEq : with_value_length (moved (y + 1) (d + head_size + name_length l d) (get_or l y 0) l) d (get_or l y 0) ≡ stored d spot.name w l =
      ap (λ (j : ℕ). with_value_length (moved (y + 1) (d + head_size + name_length l d) j l) d j) x.counted
      ∙ ap (λ (j : ℕ). with_value_length (moved (y + 1) (d + head_size + j) (length w) l) d (length w)) (at.cells.named ∙ sym nameEq)
      ∙ ap (λ (j : List ℕ). with_value_length j d (length w))
      (moved_in (y + 1) target (length w) l x.within (omega (arith, at.within, a.lies.stands.size)) ∙ ap (λ (j : List ℕ). placed target j l) x.bytes) in
      rw cellsEq (alter_sim d k v spot (updates w) fit (λ e. absurd (true≢false (sym e ∙ quiet))) (stored d spot.name w l) (update_alters spot holds_its w fit))

  -- the lock is set where it stands, its body being read or not
  lock_in_sim : (d k : ℕ) (m : D.Macro) (t : Bytes) → Defines n b l r.right its d k t m
      → Ended (M.lock_in r d (lent l o)) (S.perform (limits_of n (length start)) (alters k locks) c cs s)
  lock_in_sim d k m t at =
      let spot = spot_of at.at in
      alter_sim d k m.value spot locks tt (λ e value spare. refl) (with_lock l d) (lock_alters spot holds_its)

  -- the definition that UPDATE found: 36, 20, 21, or its value
  found_sim : {q : ℕ} → TextAt l q (parameter 2 list) → (d k : ℕ) (m : D.Macro) → Defines n b l r.right its d k (parameter 1 list) m
      → Ended (M.update_at r q d (lent l o))
      (S.perform (limits_of n (length start)) (update_of (S.reading s.bodies) (parameter 2 list) (found k (macro m))) c cs s)
  found_sim {q} y d k m at = rw (at.cells.locking, read_eq) (unlocked m.locked)
    where
      w : Bytes
      w = parameter 2 list

      busy : List ℕ
      busy = S.reading s.bodies

      read_eq : is_read l r.source.list r.source.body d ≡ among k busy
      read_eq =
          is_read_finds gs gs_valid holds list_gs body_gs (subst (λ (j : List Item). At n b j d k m.value) (sym gs_laid.0) at.at)
          ∙ ap (λ (j : List Body). among k (S.reading j)) (made_bodies n b a.since a.under ∙ sym a.bodies_are)

      test : ltb (room l d) (get_or l q 0) ≡ ltb m.room (length w)
      test = ap (λ (j : ℕ). ltb j (get_or l q 0)) at.cells.roomy ∙ ap (ltb m.room) y.counted

      fits : (z : Bool) → ltb m.room (length w) ≡ z → among k busy ≡ false
          → Ended (M.update_in r q d (lent l o))
          (S.perform (limits_of n (length start)) (cond z (faulty Outcomes.update_too_long) (alters k (updates w))) c cs s)
      fits true e h = rw (test ∙ e) (refusing built_ins_free a UpdateTooLong)
      fits false e h = rw (test ∙ e) (store_sim d k m (parameter 1 list) w q at y (ltb-false m.room (length w) e) h)

      quiet : (z : Bool) → among k busy ≡ z
          → Ended (cond z (M.ends BodyBeingRead r (lent l o)) (M.update_in r q d (lent l o)))
          (S.perform (limits_of n (length start)) (cond z (faulty Outcomes.body_being_read) (cond (ltb m.room (length w)) (faulty Outcomes.update_too_long) (alters k (updates w)))) c cs s)
      quiet true e = refusing built_ins_free a BodyBeingRead
      quiet false e = fits (ltb m.room (length w)) refl e

      unlocked : (z : Bool)
          → Ended
          (cond z (M.ends Locked r (lent l o)) (cond (among k busy) (M.ends BodyBeingRead r (lent l o)) (M.update_in r q d (lent l o))))
          (S.perform (limits_of n (length start))
          (cond z (faulty Outcomes.locked)
          (cond (among k busy) (faulty Outcomes.body_being_read) (cond (ltb m.room (length w)) (faulty Outcomes.update_too_long) (alters k (updates w))))) c cs s)
      unlocked true = refusing built_ins_free a Locked
      unlocked false = quiet (among k busy) refl

  update_sim : {p q : ℕ} → TextAt l p (parameter 1 list) → TextAt l q (parameter 2 list)
      → Ended (M.update r p q heads (lent l o))
      (S.perform (limits_of n (length start)) (update_of (S.reading s.bodies) (parameter 2 list) (D.newest (parameter 1 list) s.standing.definitions)) c cs s)
  update_sim {p} {q} x y =
      given_sim x (update_of (S.reading s.bodies) (parameter 2 list)) refl (λ k bi. refl) (λ d. M.update_at r q d (lent l o))
      λ d k m at g. found_sim y d k m at

  lock_sim : {q : ℕ} → TextAt l q (parameter 1 list)
      → Ended (M.lock r q heads (lent l o))
      (S.perform (limits_of n (length start)) (lock_of (D.newest (parameter 1 list) s.standing.definitions)) c cs s)
  lock_sim x =
      given_sim x lock_of refl (λ k bi. refl) (λ d. M.lock_in r d (lent l o)) λ d k m at g. lock_in_sim d k m (parameter 1 list) at

  -- Arithmetic -------------------------------------------------------------------------------------------------------

  arithmetic_sim : (op : Operation) {p q : ℕ} → TextAt l p (parameter 1 list) → TextAt l q (parameter 2 list)
      → Ended
      (M.give_answer r (calculate op l p q) (lent l o))
      (S.perform (limits_of n (length start)) (result_of (calculated op (parameter 1 list) (parameter 2 list))) c cs s)
  arithmetic_sim op x y =
      rw (calculate_is op x (each 1 list list_octets) y (each 2 list list_octets))
      (go (calculated op (parameter 1 list) (parameter 2 list)))
    where
      go : (R : Result ℤ Refusal)
          → Ended (M.give_answer r (answer_of R) (lent l o)) (S.perform (limits_of n (length start)) (result_of R) c cs s)
      go (Ok z) = decimal_sim (shortest z)
      go (Err Arithmetical.NotANumber) = refusing built_ins_free a NotANumber
      go (Err Arithmetical.DivisorZero) = refusing built_ins_free a DivisorZero
      go (Err Arithmetical.ResultOutOfRange) = refusing built_ins_free a ResultOutOfRange

  -- SEQ, SIZE and IF -------------------------------------------------------------------------------------------------

  seq_sim : {p q : ℕ} → TextAt l p (parameter 1 list) → TextAt l q (parameter 2 list)
      → Ended
      (M.give_count r (compare l p q) (lent l o))
      (S.perform (limits_of n (length start)) (gives (compared (parameter 1 list) (parameter 2 list))) c cs s)
  unfolding digits_of
  seq_sim x y = rw (compare_is x y) (go (D.same (parameter 1 list) (parameter 2 list)))
    where
      go : (z : Bool) → Ended (M.give_count r (cond z 1 0) (lent l o)) (S.perform (limits_of n (length start)) (gives (cond z (ascii "1") (ascii "0"))) c cs s)
      go true = decimal_sim (ascii "1")
      go false = decimal_sim (ascii "0")

  size_sim : {q : ℕ} → TextAt l q (parameter 1 list)
      → Ended
      (M.give_count r (get_or l q 0) (lent l o))
      (S.perform (limits_of n (length start)) (gives (digits (length (parameter 1 list)))) c cs s)
  size_sim x =
      rw x.counted (decimal_sim (digits (length (parameter 1 list))))

  if_sim : Ended (M.choose r name (lent l o)) (S.perform (limits_of n (length start)) (gives (B.chosen (drop 1 list))) c cs s)
  if_sim = go (B.chosen (drop 1 list)) (chosen l name)
      (chosen_at (length l) l name list (drop (r.calls.left + 1) l) (arguments_at a)
      (omega (arith, a.left_is, a.room, a.lies.stands.right, a.lies.stands.size))
      (omega (arith, a.lies.stands.size, a.cells_lent))
      (omega (arith, a.left_is, a.room, a.lies.stands.right, a.lies.stands.size)) named)
      (all_chosen empty (all_drop 1 list_octets))
    where
      go : (v : Bytes) (q : Option ℕ) → Picked l v q → Octets v
          → Ended (M.choose_at r name q (lent l o)) (S.perform (limits_of n (length start)) (gives v) c cs s)
      go v q (nothing e) os = rw e (block_sim name [] (omega (arith, a.left_is, a.room, a.lies.stands.right)) refl empty)
      go v q (picked {q = at} x) os =
          rw x.counted
          (block_sim (at + 1) v (omega (arith, x.within, a.lies.stands.size)) x.bytes os)

  -- A built-in -------------------------------------------------------------------------------------------------------

  perform_sim : (bi : BuiltIn) {last : ℕ} → needs bi < length list → ArgumentAt l name list (needs bi) last
      → Sim (M.perform r bi name last heads (lent l o))
      (S.perform (limits_of n (length start)) (performed (S.reading s.bodies) list s.standing.definitions bi) c cs s)
  perform_sim Def long x = definition_sim (first_is (omega arith)) x long
  perform_sim Val long x = val_sim (text_is x)
  perform_sim Update long x = update_sim (text_is (first_is (omega arith))) (text_is x)
  perform_sim (Arithmetic op) long x = arithmetic_sim op (text_is (first_is (omega arith))) (text_is x)
  perform_sim Seq long x = seq_sim (text_is (first_is (omega arith))) (text_is x)
  perform_sim Size long x = size_sim (text_is x)
  perform_sim If long x = if_sim
  perform_sim Lock long x = lock_sim (text_is x)

  -- what it needs, or 13
  supplied_sim : (bi : BuiltIn)
      → Sim (M.supplied r bi name heads (lent l o))
      (S.perform (limits_of n (length start)) (cond (ltb (needs bi) (length list)) (performed (S.reading s.bodies) list s.standing.definitions bi) (faulty Outcomes.not_supplied)) c cs s)
  supplied_sim bi = go (ltb (needs bi) (length list)) refl
    where
      go : (z : Bool) → ltb (needs bi) (length list) ≡ z
          → Sim (M.supplied r bi name heads (lent l o))
          (S.perform (limits_of n (length start)) (cond z (performed (S.reading s.bodies) list s.standing.definitions bi) (faulty Outcomes.not_supplied)) c cs s)
      go true q =
          let long = ltb-true (needs bi) (length list) q in
          let x = argument_is (needs bi) long in
          rw x.found (perform_sim bi long x.is)
      go false q = rw (argument_not (needs bi) (ltb-false (needs bi) (length list) q)) (refusing built_ins_free a NotSupplied)

  -- The applied call -------------------------------------------------------------------------------------------------

  own_sim : (F : Found) → Own F → D.newest (parameter 0 list) built_ins ≡ F
      → Sim (M.apply_built_in r name heads (lent l o)) (S.perform (limits_of n (length start)) (deed_of (S.reading s.bodies) list s.standing.definitions F) c cs s)
  own_sim F unknown e = rw (built_in_named_is name_text ∙ ap named_of e) (refusing built_ins_free a NotDefined)
  own_sim F (known j bi) e = rw (built_in_named_is name_text ∙ ap named_of e) (supplied_sim bi)

  pub marked_sim : Sim (M.apply_marked r heads (lent l o)) (S.perform (limits_of n (length start)) (deed (S.reading s.bodies) list s.standing.definitions) c cs s)
  unfolding deed
  marked_sim = go (found' name (parameter 0 list) name_text)
    where
      t : Bytes
      t = parameter 0 list

      go : {d : Option ℕ} → Newest n b l r.right its t d
          → Sim (M.apply_found r d heads (lent l o))
          (S.perform (limits_of n (length start)) (deed_of (S.reading s.bodies) list s.standing.definitions (D.newest t s.standing.definitions)) c cs s)
      go (absent f) =
          let g : D.newest t s.standing.definitions ≡ D.newest t built_ins = ap (D.newest t) definitions_are ∙ f built_ins in
          rw g (own_sim (D.newest t built_ins) (built_ins_only t) refl)
      go (present {d} {k} {c = m} at f) =
          let g : D.newest t s.standing.definitions ≡ found k (macro m) = ap (D.newest t) definitions_are ∙ f built_ins refl in
          rw g (read_sim d k m at)
