-- Document 01, One scan: the language by scanning.
use Rattle.std.specs.Prelude.{ℕ, zero, suc, ◌+◌, max, Bool, true, false, cond, List, [], ◌∷◌, ◌++◌, length, leb, ltb}
use Rattle.std.specs.Prelude.{Option, None, Some}
use Rattle.language.specs.Signs.{Bytes, Language, Meaning, copied, left_out, opens, separates, applies, fetches, unquotes, meaning}
use Rattle.language.specs.Outcomes
use Rattle.language.specs.Definitions.{Definition, defined, altered, oldest, without}
use Rattle.language.specs.BuiltIns.{Deed, reads, defines, gives, alters, faulty, deed, parameter}
use Rattle.language.specs.Charge.{open_price, end_price, collected_price, list_price, definitions_price}
use Rattle.language.specs.Ends.{End}

-- The standing of a run ----------------------------------------------------------------------------------------------

-- a call being collected: the arguments that are ended, the name first, the argument in hand, and how many definitions
-- stood at its `$`
pub record Call : Type 0 where
  pub ended : List Bytes
  pub hand : Bytes
  pub stood : ℕ

-- a body being read: the number of its definition, the list of name and parameters, the bytes still to be read, how many
-- calls were open when it began, and how many definitions stood at its `$` and at its `;`
pub record Body : Type 0 where
  pub number : ℕ
  pub list : List Bytes
  pub rest : Bytes
  pub calls : ℕ
  pub opened : ℕ
  pub applied : ℕ

-- what an end reports: definitions newest first, output and counts
pub record Standing : Type 0 where
  pub definitions : List Definition
  pub output : Bytes
  pub read : ℕ
  pub scans : ℕ
  pub most : ℕ

-- the text still to be read, the depth of quotes, the calls being collected and the bodies being read, innermost first
pub record State : Type 0 where
  pub text : Bytes
  pub quotes : ℕ
  pub calls : List Call
  pub bodies : List Body
  pub standing : Standing

pub data Step : Type 0 where
  next : State → Step
  stop : End → Step

-- an end with this outcome, of what stands
abbrev pub end_with : ℕ → Standing → End
end_with outcome w = record {
  outcome = outcome;
  output = w.output;
  read = w.read;
  scans = w.scans;
  most = w.most;
  definitions = w.definitions;
}

-- "The byte at which a run is refused counts as read, and that scan counts. Live definitions are those standing when the
-- run ended, before a refused scan."
abbrev pub ends : ℕ → State → Step
ends n s = stop (end_with n s.standing)

-- Parts of a state set anew ------------------------------------------------------------------------------------------

abbrev pub with_text : Bytes → State → State
with_text t s = record { text = t; quotes = s.quotes; calls = s.calls; bodies = s.bodies; standing = s.standing }

abbrev pub with_quotes : ℕ → State → State
with_quotes q s = record { text = s.text; quotes = q; calls = s.calls; bodies = s.bodies; standing = s.standing }

abbrev pub with_calls : List Call → State → State
with_calls cs s = record { text = s.text; quotes = s.quotes; calls = cs; bodies = s.bodies; standing = s.standing }

abbrev pub with_bodies : List Body → State → State
with_bodies bs s = record { text = s.text; quotes = s.quotes; calls = s.calls; bodies = bs; standing = s.standing }

abbrev pub with_standing : Standing → State → State
with_standing w s = record { text = s.text; quotes = s.quotes; calls = s.calls; bodies = s.bodies; standing = w }

abbrev pub standing_with : List Definition → Bytes → Standing → Standing
standing_with ds out w = record { definitions = ds; output = out; read = w.read; scans = w.scans; most = w.most }

abbrev pub with_definitions : List Definition → State → State
with_definitions ds s = with_standing (standing_with ds s.standing.output s.standing) s

abbrev pub with_output : Bytes → State → State
with_output out s = with_standing (standing_with s.standing.definitions out s.standing) s

abbrev pub counting : ℕ → State → State
counting bytes s =
    let w = s.standing in
    with_standing (record { definitions = w.definitions; output = w.output; read = w.read + bytes; scans = w.scans + 1; most = w.most }) s

abbrev pub noting : ℕ → State → State
noting c s =
    let w = s.standing in
    with_standing (record { definitions = w.definitions; output = w.output; read = w.read; scans = w.scans; most = max w.most c }) s

abbrev pub with_hand : Bytes → Call → Call
with_hand h c = record { ended = c.ended; hand = h; stood = c.stood }

abbrev pub with_rest : Bytes → Body → Body
with_rest r b = record { number = b.number; list = b.list; rest = r; calls = b.calls; opened = b.opened; applied = b.applied }

-- Charge -------------------------------------------------------------------------------------------------------------

unfoldable pub calls_charge : List Call → ℕ
calls_charge [] = 0
calls_charge (c ∷ cs) = collected_price c.ended c.hand + calls_charge cs

unfoldable pub bodies_charge : List Body → ℕ
bodies_charge [] = 0
bodies_charge (b ∷ bs) = list_price b.list + bodies_charge bs

-- the sum over all lists and live definitions
abbrev pub charge : State → ℕ
charge s = calls_charge s.calls + bodies_charge s.bodies + definitions_price s.standing.definitions

-- Limits -------------------------------------------------------------------------------------------------------------

pub data Limit : Type 0 where
  unlimited : Limit
  at_most : ℕ → Limit

abbrev pub allows : Limit → ℕ → Bool
allows unlimited n = true
allows (at_most m) n = leb n m

pub record Limits : Type 0 where
  pub cells : Limit
  pub output : Limit

abbrev pub no_limits : Limits
no_limits = record { cells = unlimited; output = unlimited }

-- One scan -----------------------------------------------------------------------------------------------------------

-- the name and parameters of a call whose last argument is ended too
abbrev pub list_of : Call → List Bytes
list_of c = c.ended ++ (c.hand ∷ [])

abbrev pub new_call : State → Call
new_call s = record { ended = []; hand = []; stood = length s.standing.definitions }

abbrev pub separated : Call → Call
separated c = record { ended = list_of c; hand = []; stood = c.stood }

abbrev pub new_body : ℕ → Bytes → Call → List Call → State → Body
new_body k v c cs s = record { number = k; list = list_of c; rest = v; calls = length cs; opened = c.stood; applied = length s.standing.definitions }

-- the numbers of the definitions whose bodies are being read
unfoldable pub reading : List Body → List ℕ
reading [] = []
reading (b ∷ bs) = b.number ∷ reading bs

-- how many calls were open when the innermost body began
abbrev pub calls_below : List Body → ℕ
calls_below [] = 0
calls_below (b ∷ bs) = b.calls

-- whether a call is open that was begun in the body, or in the text, being read
abbrev pub own_call : State → Bool
own_call s = ltb (calls_below s.bodies) (length s.calls)

module _ (L : Limits) where
  -- 4: "the charge would exceed the cells lent": n cells more are charged. "Most" is the highest charge allowed.
  abbrev pub charging : ℕ → State → (State → Step) → Step
  charging n s go =
      let r = go (noting (charge s + n) s) in
      cond (allows L.cells (charge s + n)) r (ends Outcomes.no_cells_left s)

  -- 5: "the bytes of this scan would exceed the output lent"
  abbrev pub writing : Bytes → State → (State → Step) → Step
  writing bs s go =
      let r = go (with_output (s.standing.output ++ bs) s) in
      cond (allows L.output (length s.standing.output + length bs)) r (ends Outcomes.no_output_left s)

  -- "They go to the argument being collected by the innermost open call, else to the output."
  abbrev pub put_to : List Call → Bytes → State → Step
  put_to [] bs s = writing bs s next
  put_to (c ∷ cs) bs s = charging (length bs) s (λ s. next (with_calls (with_hand (c.hand ++ bs) c ∷ cs) s))

  abbrev pub put : Bytes → State → Step
  put bs s = put_to s.calls bs s

  -- `$` "opens a call with an empty name"
  abbrev pub open_call : State → Step
  open_call s = charging open_price s (λ s. next (with_calls (new_call s ∷ s.calls) s))

  -- `,` "ends the argument in hand of the innermost open call .. With no open call it is copied."
  abbrev pub separate : List Call → ℕ → State → Step
  separate [] b s = put (b ∷ []) s
  separate (c ∷ cs) b s = charging end_price s (λ s. next (with_calls (separated c ∷ cs) s))

  -- "A VAL or arithmetic result is charged before its list goes, if it is collected": the call c and its `;` are still charged.
  -- Document 02, Four: "their results charged and placed like VAL's"
  abbrev pub give : List Call → Call → Bytes → State → Step
  give [] c bs s = writing bs s (λ s. next (with_calls [] (with_definitions (oldest c.stood s.standing.definitions) s)))
  give (outer ∷ cs) c bs s =
      charging (end_price + length bs) s
      (λ s. next (with_calls (with_hand (outer.hand ++ bs) outer ∷ cs) (with_definitions (oldest c.stood s.standing.definitions) s)))

  -- what the applied call c does, the calls cs being open around it. Of a built-in "the list of name and parameters goes, with
  -- every definition made while it was collected"
  abbrev pub perform : Deed → Call → List Call → State → Step
  perform (reads k v) c cs s = next (with_bodies (new_body k v c cs s ∷ s.bodies) (with_calls cs s))
  perform (defines n v) c cs s = next (with_calls cs (with_definitions (defined n v ∷ oldest c.stood s.standing.definitions) s))
  perform (gives bs) c cs s = give cs c bs s
  perform (alters k change) c cs s = next (with_calls cs (with_definitions (oldest c.stood (altered k change s.standing.definitions)) s))
  perform (faulty n) c cs s = ends n s

  -- "Checks at `;`: 10, 4 for its own cell, 15, 13, then the built-in's, then 4, then 5."
  abbrev pub apply_innermost : List Call → State → Step
  apply_innermost [] s = ends Outcomes.applies_nothing s
  apply_innermost (c ∷ cs) s =
      charging end_price s (λ s. perform (deed (reading s.bodies) (list_of c) s.standing.definitions) c cs s)

  -- "`;` in the text with no open call is copied."
  abbrev pub apply_none : List Body → ℕ → State → Step
  apply_none [] b s = put (b ∷ []) s
  apply_none (body ∷ bodies) b s = ends Outcomes.applies_nothing s

  abbrev pub apply : Bool → ℕ → State → Step
  apply true b s = apply_innermost s.calls s
  apply false b s = apply_none s.bodies b s

  -- "In the text, with no open call, `~` is copied as a plain byte."
  abbrev pub fetch_in_text : List Call → ℕ → State → Step
  fetch_in_text [] b s = put (b ∷ []) s
  fetch_in_text (c ∷ cs) b s = ends Outcomes.parameter_in_text s

  -- "`~r` in a body copies parameter r (0 is the name) unscanned."
  abbrev pub fetch_supplied : Bool → Bytes → State → Step
  fetch_supplied true p s = put p s
  fetch_supplied false p s = ends Outcomes.not_supplied s

  abbrev pub fetch_number : Option ℕ → List Bytes → State → Step
  fetch_number None list s = ends Outcomes.fetches_nothing s
  fetch_number (Some k) list s = fetch_supplied (ltb k (length list)) (parameter k list) s

  -- 12: the byte after `~` stands for no parameter, or the body ends
  abbrev pub fetch_in_body : Language → Bytes → Body → List Body → State → Step
  fetch_in_body G [] body bodies s = ends Outcomes.fetches_nothing s
  fetch_in_body G (b ∷ r) body bodies s = fetch_number (G.parameter_number b) body.list (with_bodies (with_rest r body ∷ bodies) s)

  abbrev pub fetch : Language → List Body → ℕ → State → Step
  fetch G [] b s = fetch_in_text s.calls b s
  fetch G (body ∷ bodies) b s = fetch_in_body G body.rest body bodies s

  -- an unquoted `>`: 1 or 16 in the text. In a body, where it is shown never to stand, it is copied.
  abbrev pub unquote : List Body → List Call → ℕ → State → Step
  unquote [] [] b s = ends Outcomes.finished_at_quote s
  unquote [] (c ∷ cs) b s = ends Outcomes.quote_in_call s
  unquote (body ∷ bodies) cs b s = put (b ∷ []) s

  -- a byte that was taken from its source
  abbrev pub byte : Language → Meaning → ℕ → State → Step
  byte G (copied q) b s = put (b ∷ []) (with_quotes q s)
  byte G (left_out q) b s = next (with_quotes q s)
  byte G opens b s = open_call s
  byte G separates b s = separate s.calls b s
  byte G applies b s = apply (own_call s) b s
  byte G fetches b s = fetch G s.bodies b s
  byte G unquotes b s = unquote s.bodies s.calls b s

  -- 17: "text ended inside quotes (before 18)"
  abbrev pub text_end : ℕ → List Call → State → Step
  text_end (suc q) cs s = ends Outcomes.text_in_quotes s
  text_end zero (c ∷ cs) s = ends Outcomes.text_in_call s
  text_end zero [] s = ends Outcomes.finished s

  -- "The end of a body ends its call: the list of name and parameters goes, with every definition made while it was
  -- collected. Definitions made in the body stay." That it is outside of quotes there is shown.
  abbrev pub body_end : Bool → Body → List Body → State → Step
  body_end true body bodies s = ends Outcomes.body_in_call s
  body_end false body bodies s =
      next (with_quotes 0 (with_bodies bodies (with_definitions (without body.opened body.applied s.standing.definitions) s)))

  module _ (G : Language) where
    abbrev pub from_body : Bytes → Body → List Body → State → Step
    from_body [] body bodies s = body_end (own_call s) body bodies (counting 0 s)
    from_body (b ∷ r) body bodies s = byte G (meaning G.table s.quotes b) b (with_bodies (with_rest r body ∷ bodies) (counting 0 s))

    -- "Bytes come from the innermost body being read, else from the text."
    abbrev pub from : List Body → Bytes → State → Step
    from [] [] s = text_end s.quotes s.calls (counting 0 s)
    from [] (b ∷ t) s = byte G (meaning G.table s.quotes b) b (with_text t (counting 1 s))
    from (body ∷ bodies) t s = from_body body.rest body bodies s

    -- "One scan takes the standing of the run and gives the next."
    unfoldable pub scan : State → Step
    scan s = from s.bodies s.text s

    -- at most n scans more
    unfoldable pub scans : ℕ → Step → Step
    scans zero t = t
    scans (suc n) (next s) = scans n (scan s)
    scans (suc n) (stop e) = stop e

-- the fresh standing, from any definitions
abbrev pub start : Bytes → List Definition → State
start t ds = record {
  text = t;
  quotes = 0;
  calls = [];
  bodies = [];
  standing = record { definitions = ds; output = []; read = 0; scans = 0; most = definitions_price ds };
}

-- 3: "a further scan is due and the allowance has been used"
abbrev pub end_of : Step → End
end_of (stop e) = e
end_of (next s) = end_with Outcomes.no_scans_left s.standing

-- the run over a text in this language, with this allowance of scans
unfoldable pub run : Limits → Language → ℕ → Bytes → List Definition → End
run L G allowance t ds = end_of (scans L G allowance (next (start t ds)))
