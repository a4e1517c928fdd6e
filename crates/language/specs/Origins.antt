-- Document 02, Eight: where each byte of the output came from.
use Rattle.std.specs.Prelude.{ℕ, zero, suc, ◌-◌, ◌≤◌, ◌≡◌, Bool, false, cond, ◌||◌, List, [], ◌∷◌, ◌++◌, map, length, take, drop, ltb}
use Rattle.std.specs.Prelude.{Option, None, Some}
use Rattle.language.specs.Signs.{Bytes, Language, Meaning, copied, left_out, opens, separates, applies, fetches, unquotes, meaning, language}
use Rattle.language.specs.Outcomes
use Rattle.language.specs.Refusals.{Refusal, refused_by}
use Rattle.language.specs.declared.rules.Rule.{Rule}
use Rattle.language.specs.declared.rules.Rule.TheVariants.{CopiedFromText, CopiedFromBody, Fetched, GivenByVal, GivenByBuiltIn}
use Rattle.language.specs.declared.built_ins.BuiltIn.{BuiltIn}
use Rattle.language.specs.declared.built_ins.BuiltIn.TheVariants.{Def, Val, Update, Arithmetic, Seq, Size, If, Lock}
use Rattle.language.specs.Definitions.{macro, built_in, Found, found, missing, newest}
use Rattle.language.specs.BuiltIns.{Deed, reads, defines, gives, alters, faulty, deed, parameter}
use Rattle.language.specs.Scanning.{Call, Body, State, Step, next, stop, Limits, with_bodies, with_rest, list_of, reading, own_call, scan, start}
use Rattle.language.specs.Expansion.{Given, Returned, overwritten, limits_of, refusals, untouched, ending, returned_by}
use Rattle.language.specs.Demand.{Expanded}

-- "the rule that wrote it: 1 copied from the text, 2 copied from a body, 3 fetched by `~`, 4 given by VAL, 5 given by another
-- built-in"
abbrev pub copied_from_text : ℕ
copied_from_text = 1

abbrev pub copied_from_body : ℕ
copied_from_body = 2

abbrev pub fetched : ℕ
fetched = 3

abbrev pub given_by_val : ℕ
given_by_val = 4

abbrev pub given_by_built_in : ℕ
given_by_built_in = 5

-- the number of a rule of the code
abbrev pub rule_number : Rule → ℕ
rule_number CopiedFromText = copied_from_text
rule_number CopiedFromBody = copied_from_body
rule_number Fetched = fetched
rule_number GivenByVal = given_by_val
rule_number GivenByBuiltIn = given_by_built_in

-- What a scan writes, and by which rule ------------------------------------------------------------------------------

pub record Writes : Type 0 where
  pub bytes : Bytes
  pub rule : ℕ

-- bytes "go to the argument being collected by the innermost open call, else to the output"
abbrev pub puts : List Call → ℕ → Bytes → Option Writes
puts [] rule bs = Some (record { bytes = bs; rule = rule })
puts (c ∷ cs) rule bs = None

abbrev pub copied_from : List Body → ℕ
copied_from [] = copied_from_text
copied_from (body ∷ bodies) = copied_from_body

-- a byte that is copied
abbrev pub copies : ℕ → State → Option Writes
copies b s = puts s.calls (copied_from s.bodies) (b ∷ [])

abbrev pub given_by : BuiltIn → ℕ
given_by Def = given_by_built_in
given_by Val = given_by_val
given_by Update = given_by_built_in
given_by (Arithmetic op) = given_by_built_in
given_by Seq = given_by_built_in
given_by Size = given_by_built_in
given_by If = given_by_built_in
given_by Lock = given_by_built_in

-- what a built-in gives, the calls cs being open around it
abbrev pub giving : BuiltIn → List Call → Deed → Option Writes
giving b cs (gives bs) = puts cs (given_by b) bs
giving b cs (reads k v) = None
giving b cs (defines n v) = None
giving b cs (alters k change) = None
giving b cs (faulty n) = None

-- "the newest definition with that name is taken": a body is read from the next scan
abbrev pub taking : Found → List Call → Deed → Option Writes
taking missing cs d = None
taking (found k (macro x)) cs d = None
taking (found k (built_in b)) cs d = giving b cs d

-- `;` that applies the innermost call
abbrev pub applying : List Call → State → Option Writes
applying [] s = None
applying (c ∷ cs) s =
    let ds = s.standing.definitions in
    taking (newest (parameter 0 (list_of c)) ds) cs (deed (reading s.bodies) (list_of c) ds)

-- "`~r` in a body copies parameter r"
abbrev pub fetching_number : Option ℕ → List Bytes → State → Option Writes
fetching_number None list s = None
fetching_number (Some k) list s = puts s.calls fetched (parameter k list)

abbrev pub fetching_in : Language → Bytes → List Bytes → State → Option Writes
fetching_in G [] list s = None
fetching_in G (b ∷ r) list s = fetching_number (G.parameter_number b) list s

-- "In the text, with no open call, `~` is copied as a plain byte."
abbrev pub fetching : Language → List Body → ℕ → State → Option Writes
fetching G [] b s = copies b s
fetching G (body ∷ bodies) b s = fetching_in G body.rest body.list s

-- a byte that was taken from its source. `,` and `;` are copied where they separate and apply nothing.
abbrev pub taken : Language → Meaning → ℕ → State → Option Writes
taken G (copied q) b s = copies b s
taken G (left_out q) b s = None
taken G opens b s = None
taken G separates b s = copies b s
taken G applies b s = cond (own_call s) (applying s.calls s) (copies b s)
taken G fetches b s = fetching G s.bodies b s
taken G unquotes b s = copies b s

abbrev pub taken_from_body : Language → Bytes → Body → List Body → State → Option Writes
taken_from_body G [] body bodies s = None
taken_from_body G (b ∷ r) body bodies s = taken G (meaning G.table s.quotes b) b (with_bodies (with_rest r body ∷ bodies) s)

abbrev pub taken_from : Language → List Body → Bytes → State → Option Writes
taken_from G [] [] s = None
taken_from G [] (b ∷ t) s = taken G (meaning G.table s.quotes b) b s
taken_from G (body ∷ bodies) t s = taken_from_body G body.rest body bodies s

abbrev pub bytes_in : Option Writes → Bytes
bytes_in None = []
bytes_in (Some w) = w.bytes

-- what the next scan writes to the output, if it goes on: "A refused scan adds no byte"
unfoldable pub writes : Language → State → Option Writes
writes G s = taken_from G s.bodies s.text s

-- The origins of a run -----------------------------------------------------------------------------------------------

-- a byte of the output: "the bytes of text read by the end of the scan that wrote it", and "the rule that wrote it"
pub record Origin : Type 0 where
  pub byte : ℕ
  pub read : ℕ
  pub rule : ℕ

abbrev pub each : ℕ → ℕ → Bytes → List Origin
each read rule bs = map (λ b. record { byte = b; read = read; rule = rule }) bs

-- of one scan, by what it came to
abbrev pub scan_origins : Option Writes → Step → List Origin
scan_origins None t = []
scan_origins (Some w) (stop e) = []
scan_origins (Some w) (next s) = each s.standing.read w.rule w.bytes

-- of at most n scans more, in their order
unfoldable pub origins_from : Limits → Language → ℕ → Step → List Origin
origins_from L G zero t = []
origins_from L G (suc n) (stop e) = []
origins_from L G (suc n) (next s) = scan_origins (writes G s) (scan L G s) ++ origins_from L G n (scan L G s)

-- of a whole run in what is lent
abbrev pub origins : Given → List Origin
origins g = origins_from (limits_of (length g.lent.cells) (length g.lent.output)) (language g.table) g.allowance (next (start g.text g.definitions))

abbrev pub bytes_of : List Origin → Bytes
bytes_of os = map (λ o. o.byte) os

abbrev pub reads_of : List Origin → List ℕ
reads_of os = map (λ o. o.read) os

abbrev pub rules_of : List Origin → List ℕ
rules_of os = map (λ o. o.rule) os

-- their counts of bytes read never fall, from `low` on, and are at most `high`
pub data Rising : ℕ → List Origin → ℕ → Type 0 where
  over : {low high : ℕ} → low ≤ high → Rising low [] high
  rises : {low high : ℕ} {o : Origin} {os : List Origin} → low ≤ o.read → Rising o.read os high → Rising low (o ∷ os) high

-- a byte copied from the text is the last of those read: it stands where its origin says
abbrev pub FromText : Bytes → Origin → Type 0
FromText text o = o.rule ≡ copied_from_text → take 1 (drop (o.read - 1) text) ≡ o.byte ∷ []

-- The call -----------------------------------------------------------------------------------------------------------

-- "Beside the output the caller lends two runs of 32-bit numbers."
pub record Numbers : Type 0 where
  pub origins : List ℕ
  pub rules : List ℕ

abbrev pub numbers : List ℕ → List ℕ → Numbers
numbers origins rules = record { origins = origins; rules = rules }

-- what the ordinary call is given, and the two runs of numbers
pub record GivenNumbers : Type 0 where
  pub given : Given
  pub numbers : Numbers

abbrev pub given_with : Given → Numbers → GivenNumbers
given_with g ns = record { given = g; numbers = ns }

pub record ReturnedNumbers : Type 0 where
  pub returned : Returned
  pub numbers : Numbers

abbrev pub returned_with : Returned → Numbers → ReturnedNumbers
returned_with x ns = record { returned = x; numbers = ns }

abbrev pub too_short : Numbers → ℕ → Bool
too_short ns output = ltb (length ns.origins) output || ltb (length ns.rules) output

abbrev pub short_numbers : GivenNumbers → Bool
short_numbers g = too_short g.numbers (length g.given.lent.output)

-- "35 where either run of numbers is shorter than the output lent"
abbrev pub numbers_refusals : GivenNumbers → List Refusal
numbers_refusals g = record { outcome = Outcomes.numbers_too_short; holds = short_numbers g } ∷ []

-- ".., after 2 and the sign checks"
abbrev pub refusals_with : GivenNumbers → List Refusal
refusals_with g = refusals g.given ++ numbers_refusals g

-- "Places past the written count are untouched."
abbrev pub noted : List Origin → Numbers → Numbers
noted os ns = numbers (overwritten (reads_of os) ns.origins) (overwritten (rules_of os) ns.rules)

-- refused with nothing touched, or the ordinary run to its end with the origins beside it
abbrev pub answered_with : Option ℕ → GivenNumbers → ReturnedNumbers
answered_with (Some outcome) g = returned_with (untouched outcome g.given.lent) g.numbers
answered_with None g = returned_with (returned_by (ending g.given) g.given.lent) (noted (origins g.given) g.numbers)

unfoldable pub expanded_origins : GivenNumbers → ReturnedNumbers
expanded_origins g = answered_with (refused_by (refusals_with g)) g

pub record ExpandedOrigins (g : GivenNumbers) (x : ReturnedNumbers) : Type 0 where
  -- report and final content of all that was lent
  pub noting : x ≡ expanded_origins g
  -- "The output and report of such a run are those of the ordinary run.": by both definitions, where 35 does not hold
  pub ordinary : short_numbers g ≡ false → Expanded g.given x.returned
