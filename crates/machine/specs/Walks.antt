-- Walks over lent cells: what each function answers, exactly, for any content of the cells. A walk makes at most so many turns.
use Rattle.std.specs.Prelude.{ℕ, zero, suc, ◌+◌, ◌*◌, ◌/◌, ◌%◌, Bool, true, false, cond, List, [], ◌∷◌, length, get_or, set, eqb, leb, ltb, ℤ}
use Rattle.std.specs.Prelude.{Option, None, Some, option_and_then, Result}
use Rattle.memory.specs.Block.{within, block, low_bytes, same_blocks, same_bytes}
use Rattle.decimal.specs.declared.operations.Operation.{Operation}
use Rattle.decimal.specs.declared.operations.Refusal.{Refusal}
use Rattle.decimal.specs.Operand.{operand}
use Rattle.decimal.specs.Arithmetic.{of_operands}
use Rattle.decimal.specs.Answers.{answer_of}
use Rattle.language.specs.Signs.{ascii}
use Rattle.language.specs.Definitions.{Content, macro, built_in, Definition}
use Rattle.language.specs.Groups.{group, of_group}
use Rattle.language.specs.BuiltIns.{built_ins}
use Rattle.language.specs.declared.built_ins.BuiltIn.{BuiltIn}

-- no call, and the text
abbrev pub nowhere : ℕ
nowhere = 65535

-- ends a list, and a group; it is no length and no position
abbrev pub mark : ℕ
mark = 65536

-- Numbers in cells ---------------------------------------------------------------------------------------------------

abbrev pub packed : ℕ → ℕ → ℕ
packed high low = (high % 65536) * 65536 + low % 65536

abbrev pub high : ℕ → ℕ
high c = c / 65536

abbrev pub low : ℕ → ℕ
low c = c % 65536

abbrev pub cell : ℕ → ℕ
cell n = n % 4294967296

-- How a run lies in its cells ----------------------------------------------------------------------------------------

-- the cells of a definition beside its name and the room of its value
abbrev pub head_size : ℕ
head_size = 5

-- where the arguments of an open call, or of a list, begin
abbrev pub arguments_from : ℕ
arguments_from = 3

-- the cells of a list beside the bytes of its name and its further arguments
abbrev pub list_overhead : ℕ
list_overhead = 5

-- of the definition at p. Document 02, Nine: it is locked where the first of its cells is not 0
abbrev pub is_locked : List ℕ → ℕ → Bool
is_locked l p = ltb 0 (get_or l p 0)

abbrev pub with_lock : List ℕ → ℕ → List ℕ
with_lock l p = set l p 1

abbrev pub name_length : List ℕ → ℕ → ℕ
name_length l p = get_or l (p + 1) 0

abbrev pub room : List ℕ → ℕ → ℕ
room l p = get_or l (p + 2) 0

abbrev pub value_length : List ℕ → ℕ → ℕ
value_length l p = get_or l (p + 3) 0

abbrev pub with_value_length : List ℕ → ℕ → ℕ → List ℕ
with_value_length l p count = set l (p + 3) count

-- Document 02, Thirteen: where the next older definition of its group stands, or the mark
abbrev pub group_link : List ℕ → ℕ → ℕ
group_link l p = get_or l (p + 4) 0

abbrev pub with_group_link : List ℕ → ℕ → ℕ → List ℕ
with_group_link l p link = set l (p + 4) link

-- the head of a definition is written, but for its link: "a fresh unlocked definition"
abbrev pub with_head : List ℕ → ℕ → ℕ → ℕ → List ℕ
with_head l p letters bytes = set (set (set (set l p 0) (p + 1) (cell letters)) (p + 2) (cell bytes)) (p + 3) (cell bytes)

-- of the open call, or of the list, at p
abbrev pub right_before : List ℕ → ℕ → ℕ
right_before l p = get_or l p 0

abbrev pub with_right_before : List ℕ → ℕ → ℕ → List ℕ
with_right_before l p right = set l p right

abbrev pub list_link : List ℕ → ℕ → ℕ
list_link l p = get_or l (p + 1) 0

abbrev pub return_link : List ℕ → ℕ → ℕ
return_link l p = get_or l (p + 2) 0

abbrev pub with_links : List ℕ → ℕ → ℕ → ℕ → List ℕ
with_links l p list back = set (set l (p + 1) list) (p + 2) back

-- Lists and definitions ----------------------------------------------------------------------------------------------

-- the length cell behind the argument at a length cell
abbrev pub behind : List ℕ → ℕ → ℕ
behind l p = p + (get_or l p 0 + 1)

-- the length cell of an argument, counted from the one at p; one at nowhere is none
unfoldable pub argument : List ℕ → ℕ → ℕ → Option ℕ
argument l p zero = cond (leb mark (get_or l p 0)) None (cond (eqb p nowhere) None (Some p))
argument l p (suc k) = let r = argument l (behind l p) k in cond (leb mark (get_or l p 0)) None r

-- whether the argument at a length cell is exactly this text
abbrev pub is_text : List ℕ → ℕ → List ℕ → Bool
is_text l p text = same_bytes (p + 1) (get_or l p 0) text l

unfoldable pub chosen_from : ℕ → List ℕ → ℕ → Option ℕ
chosen_from zero l p = None
chosen_from (suc t) l p =
    let next = λ (second : ℕ). cond (is_text l (behind l p) (ascii "1")) (Some second) (chosen_from t l second) in
    cond (leb (length l) p) None (option_and_then next (argument l p 2))

-- IF: of the pairs behind the argument at a length cell the second of the first whose first is `1`
abbrev pub chosen : List ℕ → ℕ → Option ℕ
chosen l name = chosen_from (length l) l name

-- the cells of a definition at p
abbrev pub size : List ℕ → ℕ → ℕ
size l p = head_size + name_length l p + room l p

-- the group of the name at a length cell, and that of the definition at p
abbrev pub name_group : List ℕ → ℕ → ℕ
name_group l name = group (block (name + 1) (get_or l name 0) l)

abbrev pub definition_group : List ℕ → ℕ → ℕ
definition_group l p = group (block (p + head_size) (name_length l p) l)

abbrev pub is_named : List ℕ → ℕ → ℕ → ℕ → Bool
is_named l p name count = cond (eqb (name_length l p) count) (same_blocks (p + head_size) (name + 1) count l) false

unfoldable pub newest_from : ℕ → List ℕ → ℕ → ℕ → ℕ → Option ℕ
newest_from zero l p name count = None
newest_from (suc t) l p name count =
    let r = newest_from t l (group_link l p) name count in
    cond (leb (length l) p) None (cond (is_named l p name count) (Some p) r)

-- "A lookup reads one group": the newest definition with the name at a length cell. `heads` are where the newest definition of each
-- group stands, or the mark.
abbrev pub newest : List ℕ → List ℕ → ℕ → Option ℕ
newest l heads name = newest_from (length l) l (get_or heads (name_group l name) 0) name (get_or l name 0)

unfoldable pub definitions_from : ℕ → List ℕ → ℕ → ℕ → ℕ
definitions_from zero l p to = 0
definitions_from (suc t) l p to = let r = definitions_from t l (p + size l p) to in cond (leb to p) 0 (suc r)

-- how many definitions stand from one position to another
abbrev pub definitions : List ℕ → ℕ → ℕ → ℕ
definitions l from to = definitions_from (length l) l from to

unfoldable pub is_read_from : ℕ → List ℕ → ℕ → ℕ → ℕ → Bool
is_read_from zero l list body definition = false
is_read_from (suc t) l list body definition =
    let r = is_read_from t l (low (list_link l list)) (high (return_link l list)) definition in
    cond (eqb list nowhere) false (cond (eqb body definition) true r)

-- whether the body of a definition is being read
abbrev pub is_read : List ℕ → ℕ → ℕ → ℕ → Bool
is_read l list body definition = is_read_from (length l) l list body definition

-- The index ----------------------------------------------------------------------------------------------------------

-- the definition at p, the newest of its group, is taken out of the index
abbrev pub removed_at : List ℕ → List ℕ → ℕ → List ℕ
removed_at l heads p = set heads (definition_group l p) (group_link l p)

unfoldable pub removed_from : ℕ → List ℕ → List ℕ → ℕ → ℕ → List ℕ
removed_from zero l heads p to = heads
removed_from (suc t) l heads p to = let r = removed_from t l (removed_at l heads p) (p + size l p) to in cond (leb to p) heads r

-- the definitions from one position to another are taken out, the newest first
abbrev pub removed : List ℕ → List ℕ → ℕ → ℕ → List ℕ
removed l heads from to = removed_from (length l) l heads from to

-- the definition at p is linked to the newest of its group
abbrev pub linked_at : List ℕ → List ℕ → ℕ → List ℕ
linked_at l heads p = with_group_link l p (get_or heads (definition_group l p) 0)

-- and is the newest of its group
abbrev pub headed_at : List ℕ → List ℕ → ℕ → List ℕ
headed_at l heads p = set heads (definition_group l p) (cell p)

-- A definition has moved up by `by` with all that stood before `end`: its link to one of these moves with it, and any other
-- becomes the link to the newest of its group among those that did not move.
abbrev pub link_moved : List ℕ → List ℕ → ℕ → ℕ → ℕ → ℕ
link_moved l heads p end by = cond (ltb (group_link l p) end) (cell (group_link l p + by)) (get_or heads (definition_group l p) 0)

unfoldable pub relinked_from : ℕ → List ℕ → List ℕ → ℕ → ℕ → ℕ → ℕ → List ℕ
relinked_from zero l heads p to end by = l
relinked_from (suc t) l heads p to end by =
    let r = relinked_from t (with_group_link l p (link_moved l heads p end by)) heads (p + size l p) to end by in
    cond (leb to p) l r

abbrev pub relinked : List ℕ → List ℕ → ℕ → ℕ → ℕ → ℕ → List ℕ
relinked l heads from to end by = relinked_from (length l) l heads from to end by

-- the definition at p is the newest of its group, unless one that stands before `to` is
abbrev pub restored_at : List ℕ → List ℕ → ℕ → ℕ → List ℕ
restored_at l heads p to = cond (ltb (get_or heads (definition_group l p) 0) to) heads (headed_at l heads p)

unfoldable pub restored_from : ℕ → List ℕ → List ℕ → ℕ → ℕ → List ℕ
restored_from zero l heads p to = heads
restored_from (suc t) l heads p to = let r = restored_from t l (restored_at l heads p to) (p + size l p) to in cond (leb to p) heads r

-- the definitions from one position to another, linked already, are put into the index, the newest first
abbrev pub restored : List ℕ → List ℕ → ℕ → ℕ → List ℕ
restored l heads from to = restored_from (length l) l heads from to

-- The names of the built-ins, and what some come to ------------------------------------------------------------------

abbrev pub named_as : Content → Option BuiltIn
named_as (built_in b) = Some b
named_as (macro x) = None

-- the first of the definitions, built-ins all, that has the name at a length cell
unfoldable pub named_among : List ℕ → ℕ → List Definition → Option BuiltIn
named_among l name [] = None
named_among l name (d ∷ ds) =
    let r = named_among l name ds in
    cond (is_text l name d.name) (named_as d.content) r

-- the built-ins are the oldest of their groups, and only those of the name's group are looked at
abbrev pub built_in_named : List ℕ → ℕ → Option BuiltIn
built_in_named l name = named_among l name (of_group (name_group l name) built_ins)

-- SEQ: 1 where two arguments are the same, their lengths and their bytes, else 0
abbrev pub compare : List ℕ → ℕ → ℕ → ℕ
compare l first second = cond (same_blocks first second (get_or l first 0 + 1) l) 1 0

-- the operand in the argument at a length cell; none where the argument does not lie within the cells
abbrev pub operand_at : List ℕ → ℕ → Option ℤ
operand_at l p = cond (within (p + 1) (get_or l p 0) l) (operand (block (p + 1) (get_or l p 0) (low_bytes l))) None

abbrev pub calculate : Operation → List ℕ → ℕ → ℕ → Result (List ℕ) Refusal
calculate op l first second = answer_of (of_operands op (operand_at l first) (operand_at l second))
