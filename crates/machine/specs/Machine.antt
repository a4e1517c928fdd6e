-- The standing, the range of its numbers and what a function leaves, as the promise of `go_on` has them (specs/Moving); then what
-- each function of the code does, exactly, for any content of the cells: one definition for each function. Those nobody has to
-- believe: proofs/ shows that they are the scanning of crate language.
use Rattle.std.specs.Prelude.{Option, None, Some, option_and_then, Result, Ok, Err, ℕ, zero, suc, ◌+◌, ◌-◌, ◌%◌, ◌≤◌, ◌<◌, max, ◌≡◌, Bool, true, false, cond, List, length, get_or, set, eqb, leb, ltb}
use Rattle.memory.specs.Block.{moved, copied, low_bytes}
use Rattle.language.specs.declared.built_ins.BuiltIn.{BuiltIn}
use Rattle.language.specs.declared.built_ins.BuiltIn.TheVariants.{Def, Val, Update, Arithmetic, Seq, Size, If, Lock}
use Rattle.language.specs.Signs.{parameter_number, cells_limit, sign_of}
use Rattle.language.specs.declared.outcomes.Outcome.{Outcome}
use Rattle.language.specs.Outcomes.{outcome_of}
use Rattle.language.specs.declared.signs.Sign.{Sign}
use Rattle.language.specs.declared.signs.Sign.TheVariants.{Plain, Dollar, Comma, Semicolon, Tilde, Quote, Unquote}
use Rattle.language.specs.BuiltIns.{needs}
use Rattle.language.specs.Charge.{open_price}
use Rattle.language.specs.Expansion.{Lent}
use Rattle.machine.specs.Walks.{nowhere, mark, packed, high, low, cell, head_size, arguments_from, list_overhead, is_locked, with_lock, name_length, room, value_length, with_value_length, with_head, right_before, with_right_before, list_link, return_link, with_links, behind, argument, newest, definitions, is_read, chosen, removed, linked_at, headed_at, relinked, restored, built_in_named, compare, calculate}
use Rattle.decimal.specs.declared.operations.Refusal.{Refusal}
use Rattle.decimal.specs.Shortest.{digits}
use Rattle.machine.specs.declared.run.Calls.{Calls}
use Rattle.machine.specs.declared.run.Source.{Source}
use Rattle.machine.specs.declared.run.Counts.{Counts}
use Rattle.machine.specs.declared.run.Run.{Run}
use Rattle.machine.specs.declared.run.Answer.{Answer}
use Rattle.machine.specs.declared.run.Answer.TheVariants.{GoesOn, Ended, Damaged, Refused}
use Rattle.machine.specs.declared.run.Stepped.{Stepped}
use Rattle.language.specs.declared.outcomes.Outcome.TheVariants.{AppliesNothing, BodyBeingRead, BodyInCall, EmptyName, FetchesNothing, Finished, FinishedAtQuote, Locked, NoCellsLeft, NoOutputLeft, NotDefined, NotSupplied, ParameterInText, QuoteInCall, TextInCall, TextInQuotes, UpdateTooLong}
use Rattle.language.specs.declared.outcomes.Outcome.TheVariants as Outcomes

-- The standing -------------------------------------------------------------------------------------------------------

abbrev pub fresh : ℕ → Run
fresh cells = record {
  calls = record { left = 0; call = nowhere; hand = 0 };
  source = record { list = nowhere; body = 0; offset = 0 };
  counts = record { read = 0; written = 0; scans = 0; most = 0; live = 0 };
  right = cells;
  quotes = 0;
  charge = 0;
}

-- Parts of a standing set anew.
abbrev pub with_calls : Calls → Run → Run
with_calls c r = record { calls = c; source = r.source; counts = r.counts; right = r.right; quotes = r.quotes; charge = r.charge }

abbrev pub with_source : Source → Run → Run
with_source s r = record { calls = r.calls; source = s; counts = r.counts; right = r.right; quotes = r.quotes; charge = r.charge }

abbrev pub with_counts : Counts → Run → Run
with_counts c r = record { calls = r.calls; source = r.source; counts = c; right = r.right; quotes = r.quotes; charge = r.charge }

abbrev pub with_right : ℕ → Run → Run
with_right n r = record { calls = r.calls; source = r.source; counts = r.counts; right = n; quotes = r.quotes; charge = r.charge }

abbrev pub with_quotes : ℕ → Run → Run
with_quotes q r = record { calls = r.calls; source = r.source; counts = r.counts; right = r.right; quotes = q; charge = r.charge }

abbrev pub with_charge : ℕ → Run → Run
with_charge n r = record { calls = r.calls; source = r.source; counts = r.counts; right = r.right; quotes = r.quotes; charge = n }

abbrev pub with_read : ℕ → Run → Run
with_read n r =
    let c = r.counts in
    with_counts (record { read = n; written = c.written; scans = c.scans; most = c.most; live = c.live }) r

abbrev pub with_written : ℕ → Run → Run
with_written n r =
    let c = r.counts in
    with_counts (record { read = c.read; written = n; scans = c.scans; most = c.most; live = c.live }) r

abbrev pub with_scans : ℕ → Run → Run
with_scans n r =
    let c = r.counts in
    with_counts (record { read = c.read; written = c.written; scans = n; most = c.most; live = c.live }) r

abbrev pub with_most : ℕ → Run → Run
with_most n r =
    let c = r.counts in
    with_counts (record { read = c.read; written = c.written; scans = c.scans; most = n; live = c.live }) r

abbrev pub with_live : ℕ → Run → Run
with_live n r =
    let c = r.counts in
    with_counts (record { read = c.read; written = c.written; scans = c.scans; most = c.most; live = n }) r

abbrev pub with_offset : ℕ → Run → Run
with_offset n r = with_source (record { list = r.source.list; body = r.source.body; offset = n }) r

-- n cells more are charged
abbrev pub charged : ℕ → Run → Run
charged n r = with_charge (r.charge + n) (with_most (max r.counts.most (r.charge + n)) r)

-- n cells more are collected
abbrev pub collected : ℕ → Run → Run
collected n r = with_calls (record { left = r.calls.left + n; call = r.calls.call; hand = r.calls.hand }) (charged n r)

abbrev pub wrote : ℕ → Run → Run
wrote n r = with_written (r.counts.written + n) r

abbrev pub scanned : Run → Run
scanned r = with_scans (r.counts.scans + 1) r

abbrev pub opened : Run → Run
opened r =
    with_calls (record { left = r.calls.left + open_price; call = r.calls.left; hand = r.calls.left + arguments_from }) (charged open_price r)

abbrev pub separated : Run → Run
separated r = with_calls (record { left = r.calls.left + 1; call = r.calls.call; hand = r.calls.left }) (charged 1 r)

-- The largest count of scans.
abbrev pub last_scan : ℕ
last_scan = 18446744073709551615

-- the numbers of a standing are in range, in n cells, within a scan that is counted
pub record Sound (n : ℕ) (r : Run) : Type 0 where
  pub cells_lent : n ≤ cells_limit
  pub ordered : r.calls.left ≤ r.right
  pub inside : r.right ≤ n
  pub in_use : r.charge + r.right ≡ r.calls.left + n
  pub call_below : r.calls.call ≤ nowhere
  pub hand_below : r.calls.hand ≤ cells_limit
  pub list_below : r.source.list ≤ nowhere
  pub body_below : r.source.body ≤ nowhere
  pub offset_below : r.source.offset ≤ 4294967296
  pub quotes_below : r.quotes < r.counts.scans
  pub live_below : r.counts.live ≤ cells_limit

-- the same between two scans
abbrev pub Ready : ℕ → Run → Type 0
Ready n r = Sound n (scanned r)

-- and no more is written than the k bytes of output lent
pub record InRange (n k : ℕ) (r : Run) : Type 0 where
  pub ready : Ready n r
  pub written : r.counts.written ≤ k

-- the same once the cell of an applying `;` is charged and the mark stands in it, and `kept` cells are charged for a result
pub record Resulting (n kept : ℕ) (r : Run) : Type 0 where
  pub cells_lent : n ≤ cells_limit
  pub within : r.charge ≤ n
  pub inside : r.right ≤ n
  pub in_use : r.charge + r.right ≡ r.calls.left + 1 + kept + n
  pub opened : r.calls.call + open_price ≤ r.calls.left
  pub list_below : r.source.list ≤ nowhere
  pub body_below : r.source.body ≤ nowhere
  pub offset_below : r.source.offset ≤ 4294967296
  pub quotes_below : r.quotes ≤ r.counts.scans
  pub live_below : r.counts.live ≤ cells_limit

-- and no result is charged
abbrev pub Marked : ℕ → Run → Type 0
Marked n r = Resulting n 0 r

-- What a function leaves: the standing, the answer and what is lent.
pub record After : Type 0 where
  pub run : Run
  pub answer : Answer
  pub lent : Lent

abbrev pub leaves : Stepped → Lent → After
leaves st m = record { run = st.run; answer = st.answer; lent = m }

-- and the heads of the index
pub record Indexed : Type 0 where
  pub after : After
  pub heads : List ℕ

abbrev pub leaves_indexed : Stepped → Lent → List ℕ → Indexed
leaves_indexed st m h = record { after = leaves st m; heads = h }

-- the index is as it was
abbrev pub keeping : List ℕ → After → Indexed
keeping h a = record { after = a; heads = h }

-- an outcome with nothing changed
abbrev pub ends : Outcome → Run → Lent → After
ends outcome r m = record { run = r; answer = Ended outcome; lent = m }

abbrev pub goes : Run → Lent → After
goes r m = record { run = r; answer = GoesOn; lent = m }

-- what the cells of a real run never lead to
abbrev pub damaged : Run → Lent → After
damaged r m = record { run = r; answer = Damaged; lent = m }

abbrev pub with_cells : List ℕ → Lent → Lent
with_cells l m = record { cells = l; output = m.output }

abbrev pub with_output : List ℕ → Lent → Lent
with_output o m = record { cells = m.cells; output = o }

-- Bytes --------------------------------------------------------------------------------------------------------------

abbrev pub write : Run → ℕ → Lent → After
write r b m =
    cond (leb (length m.output) r.counts.written) (ends NoOutputLeft r m)
    (goes (wrote 1 r) (with_output (set m.output r.counts.written b) m))

abbrev pub collect : Run → ℕ → Lent → After
collect r b m =
    cond (leb (length m.cells) r.charge) (ends NoCellsLeft r m)
    (goes (collected 1 r) (with_cells (set m.cells r.calls.left b) m))

abbrev pub put : Run → ℕ → Lent → After
put r b m = cond (eqb r.calls.call nowhere) (write r b m) (collect r b m)

abbrev pub write_block : Run → ℕ → ℕ → Lent → After
write_block r from count m =
    cond (ltb (length m.output - r.counts.written) count) (ends NoOutputLeft r m)
    (goes (wrote count r) (with_output (copied from r.counts.written count (low_bytes m.cells) m.output) m))

abbrev pub collect_block : Run → ℕ → ℕ → Lent → After
collect_block r from count m =
    cond (ltb (length m.cells - r.charge) count) (ends NoCellsLeft r m)
    (goes (collected count r) (with_cells (moved from r.calls.left count m.cells) m))

abbrev pub copy : Run → ℕ → ℕ → Lent → After
copy r from count m = cond (eqb r.calls.call nowhere) (write_block r from count m) (collect_block r from count m)

-- Signs --------------------------------------------------------------------------------------------------------------

-- the head of a call that is opened at p
abbrev pub open_at : Run → ℕ → List ℕ → List ℕ
open_at r p l = with_links (with_right_before l p (cell r.right)) p (cell r.source.list) (packed r.calls.hand r.calls.call)

abbrev pub open_call : Run → Lent → After
open_call r m =
    cond (ltb (length m.cells - r.charge) open_price) (ends NoCellsLeft r m)
    (goes (opened r) (with_cells (open_at r r.calls.left m.cells) m))

-- the length of the argument in hand goes into its cell
abbrev pub end_argument : Run → List ℕ → List ℕ
end_argument r l = cond (ltb r.calls.hand r.calls.left) (set l r.calls.hand (cell (r.calls.left - (r.calls.hand + 1)))) l

abbrev pub end_by_comma : Run → Lent → After
end_by_comma r m =
    cond (leb (length m.cells) r.charge) (ends NoCellsLeft r m) (goes (separated r) (with_cells (end_argument r m.cells) m))

abbrev pub separate : Run → ℕ → Lent → After
separate r b m = cond (eqb r.calls.call nowhere) (write r b m) (end_by_comma r m)

-- the next byte of the body being read; none at its end
abbrev pub body_byte : Run → List ℕ → Option ℕ
body_byte r l =
    let d = r.source.body in
    cond (leb (value_length l d) r.source.offset) None (Some (get_or l (d + head_size + name_length l d + r.source.offset) 0 % 256))

abbrev pub fetch_in_text : Run → ℕ → Lent → After
fetch_in_text r b m = cond (eqb r.calls.call nowhere) (write r b m) (ends ParameterInText r m)

-- the parameter whose length cell is at p
abbrev pub fetch_argument : Run → Option ℕ → Lent → After
fetch_argument r None m = ends NotSupplied r m
fetch_argument r (Some p) m = copy (with_offset (r.source.offset + 1) r) (p + 1) (get_or m.cells p 0) m

-- the parameter with a number
abbrev pub fetch_number : Run → Option ℕ → Lent → After
fetch_number r None m = ends FetchesNothing r m
fetch_number r (Some k) m = fetch_argument r (argument m.cells (r.source.list + arguments_from) k) m

-- the parameter that the next byte stands for
abbrev pub fetch_in_body : Run → Lent → After
fetch_in_body r m = fetch_number r (option_and_then parameter_number (body_byte r m.cells)) m

abbrev pub fetch : Run → ℕ → Lent → After
fetch r b m = cond (eqb r.source.list nowhere) (fetch_in_text r b m) (fetch_in_body r m)

abbrev pub unquote : Run → ℕ → Lent → After
unquote r b m =
    cond (eqb r.source.list nowhere)
    (cond (eqb r.calls.call nowhere) (ends FinishedAtQuote r m) (ends QuoteInCall r m)) (put r b m)

abbrev pub end_text : Run → Lent → After
end_text r m =
    cond (ltb 0 r.quotes) (ends TextInQuotes r m)
    (cond (eqb r.calls.call nowhere) (ends Finished r m) (ends TextInCall r m))

-- whether the innermost open call was begun in the body, or in the text, being read
abbrev pub own_call : Run → List ℕ → Bool
own_call r l = cond (eqb r.calls.call nowhere) false (eqb (list_link l r.calls.call) r.source.list)

-- The end of a body: its list goes, and what stands from its end up to `to`; what stands before it moves up there.
abbrev pub body_ended : Run → ℕ → ℕ → ℕ → ℕ → Run
body_ended r to links reader gone =
    with_source (record { list = low links; body = high reader; offset = low reader })
    (with_right (r.right + (to - r.source.list))
    (with_quotes 0 (with_charge (r.charge - (to - r.source.list)) (with_live (r.counts.live - gone) r))))

-- those that stood before it, from `right` on, are taken out of the index, moved and put back, linked anew; those from `behind`
-- up to `to` are taken out in between
pub record Shifted : Type 0 where
  pub cells : List ℕ
  pub heads : List ℕ

abbrev pub shifted_over : ℕ → ℕ → ℕ → List ℕ → List ℕ → Shifted
shifted_over right list to l h =
    let l₁ = relinked (moved right (right + (to - list)) (list - right) l) h (right + (to - list)) to list (to - list) in
    record { cells = l₁; heads = restored l₁ h (right + (to - list)) to }

abbrev pub shifted : ℕ → ℕ → ℕ → ℕ → List ℕ → List ℕ → Shifted
shifted right list behind to l h = shifted_over right list to l (removed l (removed l h right list) behind to)

abbrev pub end_body_to : Run → ℕ → ℕ → ℕ → ℕ → List ℕ → Lent → Indexed
end_body_to r to links reader gone h m =
    let list = r.source.list in
    let x = shifted r.right list (list + high links + list_overhead) to m.cells h in
    cond (ltb to list) (keeping h (damaged r m))
    (cond (ltb (length m.cells) to) (keeping h (damaged r m))
    (cond (ltb list r.right) (keeping h (damaged r m))
    (cond (ltb r.counts.live gone) (keeping h (damaged r m))
    (record { after = goes (body_ended r to links reader gone) (with_cells x.cells m); heads = x.heads }))))

abbrev pub end_body : Run → List ℕ → Lent → Indexed
end_body r h m =
    let l = m.cells in
    let list = r.source.list in
    cond (own_call r l) (keeping h (ends BodyInCall r m))
    (end_body_to r (right_before l list) (list_link l list) (return_link l list)
    (definitions l (list + high (list_link l list) + list_overhead) (right_before l list)) h m)

-- Built-ins, the `;` being charged -----------------------------------------------------------------------------------

-- The call ends: its list goes with its `;`, and what was defined since its `$`; `kept` cells stand in place of the list.
abbrev pub released : Run → ℕ → ℕ → ℕ → ℕ → Run
released r kept to around gone =
    with_calls (record { left = r.calls.call + kept; call = low around; hand = high around })
    (with_right to
    (with_charge (r.charge - (r.calls.left - r.calls.call + 1 + (to - r.right))) (with_live (r.counts.live - gone) r)))

abbrev pub release_to : Run → ℕ → ℕ → ℕ → ℕ → Lent → After
release_to r kept to around gone m =
    cond (ltb to r.right) (damaged r m)
    (cond (ltb (length m.cells) to) (damaged r m)
    (cond (ltb r.counts.live gone) (damaged r m) (goes (released r kept to around gone) m)))

abbrev pub release : Run → ℕ → Lent → After
release r kept m =
    let l = m.cells in
    let call = r.calls.call in
    release_to r kept (right_before l call) (return_link l call) (definitions l r.right (right_before l call)) m

-- a function goes on from what another leaves, unless that ended
abbrev pub goes_on : Answer → Bool
goes_on GoesOn = true
goes_on (Ended outcome) = false
goes_on Damaged = false
goes_on Refused = false

-- once a call has ended, what was defined since its `$` is taken out of the index
abbrev pub unindexed : Run → List ℕ → After → Indexed
unindexed r h a = record { after = a; heads = cond (goes_on a.answer) (removed a.lent.cells h r.right a.run.right) h }

abbrev pub onward : Indexed → (Run → List ℕ → Indexed) → Indexed
onward x go = let y = go x.after.run x.heads in cond (goes_on x.after.answer) y x

-- the list is exchanged for the definition, which is put before `right`
abbrev pub defined : Run → ℕ → Run
defined r size = with_right (r.right - size) (with_charge (r.charge + size) (with_live (r.counts.live + 1) r))

-- the cells of the definition, and the index with it
abbrev pub defined_cells : ℕ → ℕ → ℕ → ℕ → ℕ → List ℕ → List ℕ
defined_cells right name value letters bytes l =
    with_head (moved (name + 1) (right - (letters + bytes)) letters (moved (value + 1) (right - bytes) bytes l))
    (right - (head_size + letters + bytes)) letters bytes

abbrev pub define_in : Run → ℕ → ℕ → ℕ → ℕ → List ℕ → Lent → Indexed
define_in r name value letters bytes h m =
    let size = head_size + letters + bytes in
    let l = defined_cells r.right name value letters bytes m.cells in
    cond (ltb r.right (size + r.calls.left)) (keeping h (damaged r m))
    (cond (leb cells_limit r.counts.live) (keeping h (damaged r m))
    (record { after = goes (defined r size) (with_cells (linked_at l h (r.right - size)) m); heads = headed_at l h (r.right - size) }))

-- DEF: 33, or the definition
abbrev pub def : Run → ℕ → ℕ → List ℕ → Lent → Indexed
def r name value h m =
    let l = m.cells in
    cond (eqb (get_or l name 0) 0) (keeping h (ends EmptyName r m))
    (onward (unindexed r h (release r 0 m)) (λ r₁ h₁. define_in r₁ name value (get_or l name 0) (get_or l value 0) h₁ m))

-- A result of so many bytes: it is charged where a call collects it, and counted where it goes to the output; then its call ends.
abbrev pub is_outer : Run → List ℕ → Bool
is_outer r l = eqb (low (return_link l r.calls.call)) nowhere

abbrev pub give_in : Run → ℕ → Lent → After
give_in r count m = cond (ltb (length m.cells - r.charge) count) (ends NoCellsLeft r m) (release (charged count r) count m)

abbrev pub give_out : Run → ℕ → Lent → After
give_out r count m =
    cond (ltb (length m.output - r.counts.written) count) (ends NoOutputLeft r m) (release (wrote count r) 0 m)

abbrev pub give : Run → ℕ → Lent → After
give r count m = cond (is_outer r m.cells) (give_out r count m) (give_in r count m)

-- and its bytes are placed: in place of the list, or behind the output
abbrev pub place_block : Run → ℕ → ℕ → Lent → Lent
place_block r from count m =
    cond (is_outer r m.cells) (with_output (copied from r.counts.written count (low_bytes m.cells) m.output) m)
    (with_cells (moved from r.calls.call count m.cells) m)

abbrev pub place_text : Run → List ℕ → Lent → Lent
place_text r t m =
    cond (is_outer r m.cells) (with_output (copied 0 r.counts.written (length t) t m.output) m)
    (with_cells (copied 0 r.calls.call (length t) t m.cells) m)

-- what stands in m is in the lent memory where the run goes on
abbrev pub placing : After → Lent → After
placing a m = cond (goes_on a.answer) (record { run = a.run; answer = a.answer; lent = m }) a

abbrev pub give_block : Run → ℕ → ℕ → Lent → After
give_block r from count m = placing (give r count m) (place_block r from count m)

abbrev pub give_decimal : Run → List ℕ → Lent → After
give_decimal r t m = placing (give r (length t) m) (place_text r t m)

-- "15, 19": a name that no definition has
abbrev pub refuse_named : Option BuiltIn → Run → Lent → After
refuse_named None r m = ends NotDefined r m
refuse_named (Some b) r m = ends Outcomes.BuiltIn r m

abbrev pub refuse_name : Run → ℕ → Lent → After
refuse_name r name m = refuse_named (built_in_named m.cells name) r m

-- what is done with the definition that was found under a name, if one was
abbrev pub given : Run → ℕ → (ℕ → After) → Option ℕ → Lent → After
given r name done None m = refuse_name r name m
given r name done (Some d) m = done d

-- VAL
abbrev pub val_at : Run → ℕ → Lent → After
val_at r d m = let l = m.cells in give_block r (d + head_size + name_length l d) (value_length l d) m

abbrev pub val : Run → ℕ → List ℕ → Lent → After
val r name h m = given r name (λ d. val_at r d m) (newest m.cells h name) m

-- UPDATE: "15 for the name given, 19", 36, "20, 21"
abbrev pub update_in : Run → ℕ → ℕ → Lent → After
update_in r value d m =
    let l = m.cells in
    let a = release r 0 m in
    cond (ltb (room l d) (get_or l value 0)) (ends UpdateTooLong r m)
    (record {
      run = a.run;
      answer = a.answer;
      lent = with_cells (with_value_length (moved (value + 1) (d + head_size + name_length l d) (get_or l value 0) l) d (get_or l value 0)) m;
    })

abbrev pub update_at : Run → ℕ → ℕ → Lent → After
update_at r value d m =
    cond (is_locked m.cells d) (ends Locked r m)
    (cond (is_read m.cells r.source.list r.source.body d) (ends BodyBeingRead r m) (update_in r value d m))

abbrev pub update : Run → ℕ → ℕ → List ℕ → Lent → After
update r name value h m = given r name (λ d. update_at r value d m) (newest m.cells h name) m

-- the arithmetic
abbrev pub give_answer : Run → Result (List ℕ) Refusal → Lent → After
give_answer r (Ok t) m = give_decimal r t m
give_answer r (Err refusal) m = ends (outcome_of refusal) r m

-- a count: the results of SEQ and SIZE
abbrev pub give_count : Run → ℕ → Lent → After
give_count r count m = give_decimal r (digits count) m

-- IF gives a parameter, or nothing
abbrev pub choose_at : Run → ℕ → Option ℕ → Lent → After
choose_at r name None m = give_block r name 0 m
choose_at r name (Some second) m = give_block r (second + 1) (get_or m.cells second 0) m

abbrev pub choose : Run → ℕ → Lent → After
choose r name m = choose_at r name (chosen m.cells name) m

-- LOCK: the lock is set where the definition stands, and the list goes
abbrev pub lock_in : Run → ℕ → Lent → After
lock_in r d m = let a = release r 0 m in record { run = a.run; answer = a.answer; lent = with_cells (with_lock m.cells d) m }

abbrev pub lock : Run → ℕ → List ℕ → Lent → After
lock r name h m = given r name (λ d. lock_in r d m) (newest m.cells h name) m

-- the built-in that has its parameters, the first of them behind its name and the last that it needs at `last`: "Surplus parameters
-- are ignored." IF has none that are surplus
abbrev pub perform_in : Run → BuiltIn → ℕ → ℕ → ℕ → List ℕ → Lent → Indexed
perform_in r Def name first last h m = def r first last h m
perform_in r Val name first last h m = unindexed r h (val r last h m)
perform_in r Update name first last h m = unindexed r h (update r first last h m)
perform_in r (Arithmetic op) name first last h m = unindexed r h (give_answer r (calculate op m.cells first last) m)
perform_in r Seq name first last h m = unindexed r h (give_count r (compare m.cells first last) m)
perform_in r Size name first last h m = unindexed r h (give_count r (get_or m.cells last 0) m)
perform_in r If name first last h m = unindexed r h (choose r name m)
perform_in r Lock name first last h m = unindexed r h (lock r last h m)

abbrev pub perform : Run → BuiltIn → ℕ → ℕ → List ℕ → Lent → Indexed
perform r b name last h m = perform_in r b name (behind m.cells name) last h m

-- 13: "a parameter .. needed by a built-in, was not supplied"
abbrev pub supplied_to : Run → BuiltIn → ℕ → Option ℕ → List ℕ → Lent → Indexed
supplied_to r b name None h m = keeping h (ends NotSupplied r m)
supplied_to r b name (Some last) h m = perform r b name last h m

abbrev pub supplied : Run → BuiltIn → ℕ → List ℕ → Lent → Indexed
supplied r b name h m = supplied_to r b name (argument m.cells name (needs b)) h m

abbrev pub apply_named : Run → Option BuiltIn → ℕ → List ℕ → Lent → Indexed
apply_named r None name h m = keeping h (ends NotDefined r m)
apply_named r (Some b) name h m = supplied r b name h m

abbrev pub apply_built_in : Run → ℕ → List ℕ → Lent → Indexed
apply_built_in r name h m = apply_named r (built_in_named m.cells name) name h m

-- `;` ----------------------------------------------------------------------------------------------------------------

abbrev pub body_begun : Run → ℕ → ℕ → ℕ → Run
body_begun r definition list around =
    with_calls (record { left = r.calls.call; call = low around; hand = high around })
    (with_source (record { list = list; body = definition; offset = 0 }) (with_right list r))

-- the list moves to the right, and the body of a definition is read
abbrev pub list_moved : Run → ℕ → ℕ → List ℕ → List ℕ
list_moved r list size l =
    with_links (moved r.calls.call list size l) list (packed (size - list_overhead) r.source.list) (packed r.source.body r.source.offset)

abbrev pub read_body : Run → ℕ → Lent → After
read_body r definition m =
    let size = r.calls.left - r.calls.call + 1 in
    goes (body_begun r definition (r.right - size) (return_link m.cells r.calls.call))
    (with_cells (list_moved r (r.right - size) size m.cells) m)

abbrev pub apply_found : Run → Option ℕ → List ℕ → Lent → Indexed
apply_found r None h m = apply_built_in r (r.calls.call + arguments_from) h m
apply_found r (Some d) h m = keeping h (read_body r d m)

abbrev pub apply_marked : Run → List ℕ → Lent → Indexed
apply_marked r h m = apply_found r (newest m.cells h (r.calls.call + arguments_from)) h m

abbrev pub apply_call : Run → List ℕ → Lent → Indexed
apply_call r h m =
    cond (leb (length m.cells) r.charge) (keeping h (ends NoCellsLeft r m))
    (cond (ltb r.calls.left (r.calls.call + open_price)) (keeping h (damaged r m))
    (apply_marked (charged 1 r) h (with_cells (set (end_argument r m.cells) r.calls.left mark) m)))

abbrev pub apply : Run → ℕ → List ℕ → Lent → Indexed
apply r b h m =
    cond (own_call r m.cells) (apply_call r h m)
    (cond (eqb r.source.list nowhere) (keeping h (put r b m)) (keeping h (ends AppliesNothing r m)))

-- One scan -----------------------------------------------------------------------------------------------------------

abbrev pub quotes_after : ℕ → Sign → ℕ
quotes_after q Plain = q
quotes_after q Dollar = q
quotes_after q Comma = q
quotes_after q Semicolon = q
quotes_after q Tilde = q
quotes_after q Quote = q + 1
quotes_after q Unquote = q - 1

abbrev pub scan_quoted : Run → Sign → ℕ → Lent → After
scan_quoted r sign b m =
    let q = quotes_after r.quotes sign in
    cond (eqb q 0) (goes (with_quotes 0 r) m) (put (with_quotes q r) b m)

abbrev pub scan_sign : Run → Sign → ℕ → List ℕ → Lent → Indexed
scan_sign r Plain b h m = keeping h (put r b m)
scan_sign r Dollar b h m = keeping h (open_call r m)
scan_sign r Comma b h m = keeping h (separate r b m)
scan_sign r Semicolon b h m = apply r b h m
scan_sign r Tilde b h m = keeping h (fetch r b m)
scan_sign r Quote b h m = keeping h (goes (with_quotes 1 r) m)
scan_sign r Unquote b h m = keeping h (unquote r b m)

abbrev pub scan_byte : Run → Sign → ℕ → List ℕ → Lent → Indexed
scan_byte r sign b h m = cond (ltb 0 r.quotes) (keeping h (scan_quoted r sign b m)) (scan_sign r sign b h m)

-- the next byte of the innermost body, else of the text, none at its end; the standing behind it; and that end
abbrev pub next_byte : Run → List ℕ → List ℕ → Option ℕ
next_byte r text l =
    cond (eqb r.source.list nowhere)
    (cond (leb (length text) r.counts.read) None (Some (get_or text r.counts.read 0))) (body_byte r l)

abbrev pub passed : Run → Run
passed r = cond (eqb r.source.list nowhere) (with_read (r.counts.read + 1) r) (with_offset (r.source.offset + 1) r)

abbrev pub end_source : Run → List ℕ → Lent → Indexed
end_source r h m = cond (eqb r.source.list nowhere) (keeping h (end_text r m)) (end_body r h m)

-- one scan by its source, as the scanning of crate language has it
abbrev pub scan_text : Run → List ℕ → List ℕ → List ℕ → Lent → Indexed
scan_text r kinds text h m =
    let b = get_or text r.counts.read 0 in
    cond (leb (length text) r.counts.read) (keeping h (end_text r m)) (scan_byte (with_read (r.counts.read + 1) r) (sign_of kinds b) b h m)

abbrev pub scan_body_at : Run → List ℕ → Option ℕ → List ℕ → Lent → Indexed
scan_body_at r kinds None h m = end_body r h m
scan_body_at r kinds (Some b) h m = scan_byte (with_offset (r.source.offset + 1) r) (sign_of kinds b) b h m

abbrev pub scan_body : Run → List ℕ → List ℕ → Lent → Indexed
scan_body r kinds h m = scan_body_at r kinds (body_byte r m.cells) h m

-- "One scan takes the standing of the run and gives the next."
unfoldable pub step : Run → List ℕ → List ℕ → List ℕ → Lent → Indexed
step r kinds text h m =
    let r₁ = scanned r in
    cond (eqb r.source.list nowhere) (scan_text r₁ kinds text h m) (scan_body r₁ kinds h m)

-- Scan after scan, so many times, while the run goes on.
unfoldable pub steps : ℕ → List ℕ → List ℕ → Indexed → Indexed
steps zero kinds text x = x
steps (suc k) kinds text x =
    let y = steps k kinds text (step x.after.run kinds text x.heads x.after.lent) in
    cond (goes_on x.after.answer) y x
