-- Document 01, Substitution: the language by recursive substitution.
use Rattle.std.specs.Prelude.{ℕ, zero, suc, ◌+◌, ◌-◌, max, Bool, true, false, List, [], ◌∷◌, ◌++◌, length, ltb}
use Rattle.std.specs.Prelude.{Option, None, Some}
use Rattle.language.specs.Signs.{Bytes, Language, Meaning, copied, left_out, opens, separates, applies, fetches, unquotes, meaning}
use Rattle.language.specs.Outcomes
use Rattle.language.specs.Definitions.{Definition, defined, altered, oldest, newer, between, without}
use Rattle.language.specs.BuiltIns.{Deed, reads, defines, gives, alters, faulty, deed, parameter}
use Rattle.language.specs.Charge.{open_price, end_price, list_price, definition_price, definitions_price}
use Rattle.language.specs.Ends.{End}

-- "From stretch to stretch it hands on the definitions, newest first, the output so far, the bytes of the text read, the
-- scans, the charge and its highest."
pub record Handed : Type 0 where
  pub definitions : List Definition
  pub output : Bytes
  pub read : ℕ
  pub scans : ℕ
  pub charge : ℕ
  pub most : ℕ

-- "The value of a text .. is a list of pieces": those that a comma ended, and the piece in hand
pub record Value : Type 0 where
  pub pieces : List Bytes
  pub hand : Bytes

-- where a stretch stands: in the text, or in a body under "(in a body) a parameter list", its name the first
pub data Source : Type 0 where
  text : Source
  body : List Bytes → Source

-- "It knows whether a call is being collected": none, one begun outside of this source, one begun in it
pub data Collecting : Type 0 where
  no_call outer own : Collecting

-- a value, and what is handed on behind it
pub record Held : Type 0 where
  pub value : Value
  pub handed : Handed

-- what is left of the source, and what is held; or an end; or "deeper", which "is no end"
pub data Result : Type 0 where
  stretch : Bytes → Held → Result
  finish : End → Result
  deeper : Result

infixl 20 ◌then◌
abbrev pub ◌then◌ : Result → (Bytes → Held → Result) → Result
stretch r h then f = f r h
finish e then f = finish e
deeper then f = deeper

-- "there it stops, with the definitions that stood before that scan, none dropped"
abbrev pub end_at : ℕ → Handed → End
end_at n h = record {
  outcome = n;
  output = h.output;
  read = h.read;
  scans = h.scans;
  most = h.most;
  definitions = h.definitions;
}

abbrev pub ends : ℕ → Held → Result
ends n h = finish (end_at n h.handed)

-- Counters -----------------------------------------------------------------------------------------------------------

abbrev pub scanned : ℕ → Handed → Handed
scanned bytes h = record {
  definitions = h.definitions;
  output = h.output;
  read = h.read + bytes;
  scans = h.scans + 1;
  charge = h.charge;
  most = h.most;
}

-- a byte of the text counts as read
abbrev pub text_bytes : Source → ℕ
text_bytes text = 1
text_bytes (body list) = 0

abbrev pub charged : ℕ → Handed → Handed
charged n h = record {
  definitions = h.definitions;
  output = h.output;
  read = h.read;
  scans = h.scans;
  charge = h.charge + n;
  most = max h.most (h.charge + n);
}

abbrev pub written : Bytes → Handed → Handed
written bs h = record {
  definitions = h.definitions;
  output = h.output ++ bs;
  read = h.read;
  scans = h.scans;
  charge = h.charge;
  most = h.most;
}

-- "A list's charge ends with its call": the list goes, the definitions `gone` with it, and ds are left
abbrev pub released : List Bytes → List Definition → List Definition → Handed → Handed
released list gone ds h = record {
  definitions = ds;
  output = h.output;
  read = h.read;
  scans = h.scans;
  charge = h.charge - (list_price list + definitions_price gone);
  most = h.most;
}

-- "DEF's list is exchanged for the definition."
abbrev pub exchanged : List Bytes → List Definition → Definition → List Definition → Handed → Handed
exchanged list gone d ds h = record {
  definitions = d ∷ ds;
  output = h.output;
  read = h.read;
  scans = h.scans;
  charge = h.charge - (list_price list + definitions_price gone) + definition_price d;
  most = h.most;
}

-- Values -------------------------------------------------------------------------------------------------------------

abbrev pub no_value : Value
no_value = record { pieces = []; hand = [] }

abbrev pub list_of : Value → List Bytes
list_of v = v.pieces ++ (v.hand ∷ [])

abbrev pub extended : Bytes → Value → Value
extended bs v = record { pieces = v.pieces; hand = v.hand ++ bs }

abbrev pub divided : Value → Value
divided v = record { pieces = list_of v; hand = [] }

-- "a value's first piece joins the piece in hand"
abbrev pub joined_by : Value → List Bytes → Bytes → Value
joined_by v [] hand = record { pieces = v.pieces; hand = v.hand ++ hand }
joined_by v (p ∷ ps) hand = record { pieces = v.pieces ++ ((v.hand ++ p) ∷ ps); hand = hand }

abbrev pub joined : Value → Value → Value
joined v w = joined_by v w.pieces w.hand

-- nothing held yet
abbrev pub fresh : Handed → Held
fresh h = record { value = no_value; handed = h }

abbrev pub handing : Handed → Held → Held
handing x h = record { value = h.value; handed = x }

-- "Where no call is collected, bytes go to the output"
abbrev pub put : Collecting → Bytes → Held → Held
put no_call bs h = record { value = h.value; handed = written bs h.handed }
put outer bs h = record { value = extended bs h.value; handed = charged (length bs) h.handed }
put own bs h = record { value = extended bs h.value; handed = charged (length bs) h.handed }

-- "Bare commas divide pieces while a call is collected, in a body too, and are copied elsewhere"
abbrev pub divide : Collecting → ℕ → Held → Held
divide no_call b h = put no_call (b ∷ []) h
divide outer b h = record { value = divided h.value; handed = charged end_price h.handed }
divide own b h = record { value = divided h.value; handed = charged end_price h.handed }

-- Stretches ----------------------------------------------------------------------------------------------------------

-- the value of a stretch: where it stands, whether a call is being collected, which bodies are being read, the rest of the
-- source and what is handed on
abbrev pub Eval : Type 0
Eval = Source → Collecting → List ℕ → Bytes → Handed → Result

-- the same within a stretch, at a depth of quotes and behind the value so far
abbrev pub Go : Type 0
Go = ℕ → Bytes → Held → Result

-- what collects the value of a body that is read here
abbrev pub around : Collecting → Collecting
around no_call = no_call
around outer = outer
around own = outer

-- one byte of a stretch: `nested` gives the values of calls and bodies, and `go` that of the rest
module _ (nested : Eval) (go : Go) where
  -- an applied call: `stood` definitions stood at its `$`, h was held there, and x is handed on with its `;` charged.
  -- "A built-in's result stands in place of the body's value."
  abbrev pub perform : Deed → Collecting → List ℕ → ℕ → List Bytes → Bytes → Held → Handed → Result
  perform (reads k w) c reading stood list r h x =
      nested (body list) (around c) (k ∷ reading) w x then λ r₂ h₂.
      let ds = h₂.handed.definitions in
      let n = length x.definitions in
      go 0 r (record {
        value = joined h.value h₂.value;
        handed = released list (between stood n ds) (without stood n ds) h₂.handed;
      })
  perform (defines n w) c reading stood list r h x =
      go 0 r (handing (exchanged list (newer stood x.definitions) (defined n w) (oldest stood x.definitions) x) h)
  perform (gives bs) c reading stood list r h x =
      let h₂ = put c bs (handing x h) in
      go 0 r (handing (released list (newer stood x.definitions) (oldest stood x.definitions) h₂.handed) h₂)
  perform (alters k change) c reading stood list r h x =
      let ds = altered k change x.definitions in
      go 0 r (handing (released list (newer stood ds) (oldest stood ds) x) h)
  perform (faulty n) c reading stood list r h x = finish (end_at n x)

  abbrev pub applied : Collecting → List ℕ → ℕ → Bytes → Held → Held → Result
  applied c reading stood r h h₁ =
      let x = charged end_price h₁.handed in
      let list = list_of h₁.value in
      perform (deed reading list x.definitions) c reading stood list r h x

  -- "A call is the value of its name and parameters in order, each under the definitions left so far, then the value of the
  -- found body; afterwards definitions from its name and parameters are dropped."
  abbrev pub call : Source → Collecting → List ℕ → Bytes → Held → Result
  call src c reading r h =
      nested src own reading r (charged open_price h.handed) then λ r₁ h₁.
      applied c reading (length h.handed.definitions) r₁ h h₁

  -- "`;` and `~` in the text are plain", where no call is collected
  abbrev pub apply_none : Source → Collecting → ℕ → Bytes → Held → Result
  apply_none text c b r h = go 0 r (put c (b ∷ []) h)
  apply_none (body list) c b r h = ends Outcomes.applies_nothing h

  abbrev pub apply : Source → Collecting → ℕ → Bytes → Held → Result
  apply src own b r h = stretch r h
  apply src no_call b r h = apply_none src no_call b r h
  apply src outer b r h = apply_none src outer b r h

  abbrev pub fetch_in_text : Collecting → ℕ → Bytes → Held → Result
  fetch_in_text no_call b r h = go 0 r (put no_call (b ∷ []) h)
  fetch_in_text outer b r h = ends Outcomes.parameter_in_text h
  fetch_in_text own b r h = ends Outcomes.parameter_in_text h

  -- "`~r` is the parameter"
  abbrev pub fetch_supplied : Bool → Collecting → Bytes → Bytes → Held → Result
  fetch_supplied true c p r h = go 0 r (put c p h)
  fetch_supplied false c p r h = ends Outcomes.not_supplied h

  abbrev pub fetch_number : Option ℕ → List Bytes → Collecting → Bytes → Held → Result
  fetch_number None list c r h = ends Outcomes.fetches_nothing h
  fetch_number (Some k) list c r h = fetch_supplied (ltb k (length list)) c (parameter k list) r h

  -- Document 02, One: "substitution reads letters the same way"
  abbrev pub fetch_in_body : Language → List Bytes → Collecting → Bytes → Held → Result
  fetch_in_body G list c [] h = ends Outcomes.fetches_nothing h
  fetch_in_body G list c (b ∷ r) h = fetch_number (G.parameter_number b) list c r h

  abbrev pub fetch : Language → Source → Collecting → ℕ → Bytes → Held → Result
  fetch G text c b r h = fetch_in_text c b r h
  fetch G (body list) c b r h = fetch_in_body G list c r h

  -- "the end at a bare `>`"; in a body, where none ever stands, it is copied
  abbrev pub unquote : Source → Collecting → ℕ → Bytes → Held → Result
  unquote text no_call b r h = ends Outcomes.finished_at_quote h
  unquote text outer b r h = ends Outcomes.quote_in_call h
  unquote text own b r h = ends Outcomes.quote_in_call h
  unquote (body list) c b r h = go 0 r (put c (b ∷ []) h)

  -- "Plain stretches stand for themselves, quoted ones lose one layer"
  abbrev pub byte : Language → Meaning → Source → Collecting → List ℕ → ℕ → Bytes → Held → Result
  byte G (copied q) src c reading b r h = go q r (put c (b ∷ []) h)
  byte G (left_out q) src c reading b r h = go q r h
  byte G opens src c reading b r h = call src c reading r h
  byte G separates src c reading b r h = go 0 r (divide c b h)
  byte G applies src c reading b r h = apply src c b r h
  byte G fetches src c reading b r h = fetch G src c b r h
  byte G unquotes src c reading b r h = unquote src c b r h

-- the end of the source
abbrev pub text_end : ℕ → Collecting → Held → Result
text_end (suc q) c h = ends Outcomes.text_in_quotes h
text_end zero no_call h = stretch [] h
text_end zero outer h = ends Outcomes.text_in_call h
text_end zero own h = ends Outcomes.text_in_call h

abbrev pub body_end : Collecting → Held → Result
body_end no_call h = stretch [] h
body_end outer h = stretch [] h
body_end own h = ends Outcomes.body_in_call h

abbrev pub source_end : Source → Collecting → ℕ → Held → Result
source_end text c q h = text_end q c h
source_end (body list) c q h = body_end c h

-- "Its scans are one for each thing that a scan handles, a refused one included"
abbrev pub scanned_end : Held → Held
scanned_end h = handing (scanned 0 h.handed) h

abbrev pub scanned_byte : Source → Held → Held
scanned_byte src h = handing (scanned (text_bytes src) h.handed) h

module _ (G : Language) where
  -- a stretch of at most n bytes
  unfoldable pub within : Eval → Source → Collecting → List ℕ → ℕ → Go
  within nested src c reading zero q [] h = source_end src c q (scanned_end h)
  within nested src c reading zero q (b ∷ r) h = deeper
  within nested src c reading (suc n) q [] h = source_end src c q (scanned_end h)
  within nested src c reading (suc n) q (b ∷ r) h =
      byte nested (within nested src c reading n) G (meaning G.table q b) src c reading b r (scanned_byte src h)

  -- "A depth allowance bounds nested calls"
  unfoldable pub eval : ℕ → Eval
  eval zero src c reading r x = deeper
  eval (suc d) src c reading r x = within (eval d) src c reading (length r) 0 r (fresh x)

abbrev pub start : List Definition → Handed
start ds = record { definitions = ds; output = []; read = 0; scans = 0; charge = definitions_price ds; most = definitions_price ds }

-- Substitution: "deeper" is no end
abbrev pub ended : Result → Option End
ended (stretch r h) = Some (end_at Outcomes.finished h.handed)
ended (finish e) = Some e
ended deeper = None

-- "Substitution is fed the text, the table of kinds, the definitions a run starts with .. and a depth allowance, and nothing
-- else of a run." The table comes with what the byte after `~` stands for.
unfoldable pub substituted : Language → ℕ → Bytes → List Definition → Option End
substituted G d t ds = ended (eval G d text no_call [] t (start ds))
