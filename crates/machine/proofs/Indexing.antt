-- The index: what its heads and its links are as definitions go, come and move.
use Prim.Native.Nat.{ℕ, zero, suc, ◌+◌, ◌-◌, ◌≤◌, ◌<◌}
use native.Mathlib.Omega.{arith}
use mathlib.Core.Path.{◌≡◌, refl, sym, ap, subst, ◌∙◌}
use mathlib.Core.Bool.{Bool, true, false, cond, true≢false}
use mathlib.Core.List.{List, [], ◌∷◌, ◌++◌, append_assoc}
use lib.ListN.{length, drop, get_or, set, length-append, length-set}
use lib.Seq.{get_or-set_same, get_or-set_other, set_at, drop_at}
use lib.Dec.{eqb, ltb}
use borrow.Author.Tests.{le-leb, lt-leb, lt-ltb, le-ltb, eqb-true, eqb-false, eq-eqb, ne_eqb, ltb-true}
use Rattle.language.specs.Signs.{Bytes}
use Rattle.language.specs.Groups.{groups, group}
use Rattle.language.proofs.Groups.{group_below}
use Rattle.machine.specs.Walks.{mark, cell, size, group_link, with_group_link, definition_group, removed_at, removed_from, headed_at, link_moved, relinked_from, restored_from, restored}
use Rattle.machine.specs.Items.{Head, Item, defined, listed, encode_item, encode, width, definitions_of, Definitions}
use Rattle.machine.specs.Frames.{address}
use Rattle.machine.specs.Index.{newest_in, Linked, Index, no_heads}
use Rattle.machine.proofs.Items.{width-append, width-cons, definition_size}
use Rattle.machine.proofs.Finds.{definition_turned, item-size, drop-item, link_at, group_at}
use Rattle.machine.proofs.Lists.{cell_is}

-- Where the newest of a group stands ---------------------------------------------------------------------------------

-- it does not stand before the items
pub newest_above : (n g : ℕ) (its : List Item) → n ≤ 65536 → address n its ≤ newest_in n g its
unfolding newest_in
newest_above n g [] h = omega arith
newest_above n g (defined f name value spare ∷ its) h =
    go (eqb (group name) g) (omega (arith, newest_above n g its h, width-cons (defined f name value spare) its))
  where
    go : (t : Bool) → address n (defined f name value spare ∷ its) ≤ newest_in n g its
        → address n (defined f name value spare ∷ its) ≤ cond t (address n (defined f name value spare ∷ its)) (newest_in n g its)
    go true e = omega arith
    go false e = e
newest_above n g (listed to links reader list ∷ its) h =
    omega (arith, newest_above n g its h, width-cons (listed to links reader list) its)

-- what is older is linked
pub linked_older : (n : ℕ) (since under : List Item) → Linked n (since ++ under) → Linked n under
unfolding Linked
linked_older n [] under h = h
linked_older n (defined f name value spare ∷ since) under h = linked_older n since under h.1
linked_older n (listed to links reader list ∷ since) under h = linked_older n since under h

-- a head that is set anew is that of its group, and the others are as they were
head_set : (heads : List ℕ) (n k v : ℕ) (now before : ℕ → ℕ) → length heads ≡ groups → k < groups
    → v ≡ now k → ((g : ℕ) → (k ≡ g → ⊥) → before g ≡ now g)
    → ((g : ℕ) → g < groups → get_or heads g 0 ≡ before g) → (g : ℕ) → g < groups → get_or (set heads k v) g 0 ≡ now g
head_set heads n k v now before size small is others was g h = go (eqb k g) refl
  where
    go : (t : Bool) → eqb k g ≡ t → get_or (set heads k v) g 0 ≡ now g
    go true e =
        let q : k ≡ g = eqb-true k g e in
        subst (λ (j : ℕ). get_or (set heads k v) j 0 ≡ now j) q (get_or-set_same heads k v 0 (omega arith) ∙ is)
    go false e = get_or-set_other heads k g v 0 (λ q. eqb-false k g e (sym q)) ∙ was g h ∙ others g (eqb-false k g e)

-- the newest of another group is the same without a definition
newest_other : (n g : ℕ) (f : Head) (name value spare : Bytes) (its : List Item) → (group name ≡ g → ⊥)
    → newest_in n g (defined f name value spare ∷ its) ≡ newest_in n g its
unfolding newest_in
newest_other n g f name value spare its h = rw (ne_eqb (group name) g h)

newest_own : (n : ℕ) (f : Head) (name value spare : Bytes) (its : List Item)
    → newest_in n (group name) (defined f name value spare ∷ its) ≡ address n (defined f name value spare ∷ its)
unfolding newest_in
newest_own n f name value spare its = rw (eq-eqb (group name) (group name) refl)

-- Definitions go -----------------------------------------------------------------------------------------------------

removed_one : {n : ℕ} {f : Head} {name value spare : Bytes} {its : List Item} (l heads : List ℕ) (p : ℕ)
    → definition_group l p ≡ group name → group_link l p ≡ f.link → Index n (defined f name value spare ∷ its) heads → Index n its (removed_at l heads p)
unfolding Linked
removed_one {n} {f} {name} {value} {spare} {its} l heads p e q x =
    rw (e, q)
    (record {
      size = length-set heads (group name) f.link ∙ x.size;
      linked = x.linked.1;
      headed = head_set heads n (group name) f.link (λ g. newest_in n g its) (λ g. newest_in n g (defined f name value spare ∷ its)) x.size (group_below name)
          x.linked.0 (λ g h. newest_other n g f name value spare its h) x.headed;
    })

-- the definitions that stand first go, given turns enough
pub removed_in : (t n : ℕ) (l heads : List ℕ) (p to : ℕ) (since under : List Item) (rest : List ℕ) → drop p l ≡ encode since ++ rest → Definitions since
    → to ≡ p + width since → width since ≤ t → Index n (since ++ under) heads → Index n under (removed_from t l heads p to)
unfolding removed_from Definitions encode
removed_in zero n l heads p to [] under rest e ds q w x = x
removed_in (suc t) n l heads p to [] under rest e ds q w x = rw (le-leb to p (omega arith)) x
removed_in zero n l heads p to (defined f name value spare ∷ since) under rest e ds q w x =
    absurd (omega (arith, width-cons (defined f name value spare) since, item-size (defined f name value spare)))
removed_in (suc t) n l heads p to (defined f name value spare ∷ since) under rest e ds q w x =
    let i : Item = defined f name value spare in
    let a = width-cons i since in
    let z = item-size i in
    rw (lt-leb to p (omega arith), definition_turned l p f name value spare since rest e)
    (removed_in t n l (removed_at l heads p) (p + length (encode_item i)) to since under rest (drop-item l p i since rest e) ds (omega arith) (omega arith)
    (removed_one l heads p (group_at l p f name value spare since rest e) (link_at l p f name value spare since rest e) x))
removed_in t n l heads p to (listed a links reader list ∷ since) under rest e ds q w x = absurd ds

-- A definition comes -------------------------------------------------------------------------------------------------

pub headed_new : {n : ℕ} {name value : Bytes} {its : List Item} (l heads : List ℕ) (p k : ℕ) (spare : Bytes) → definition_group l p ≡ group name
    → p ≡ address n (defined (record { lock = k; link = get_or heads (group name) 0 }) name value spare ∷ its) → p ≤ 65536
    → Index n its heads → Index n (defined (record { lock = k; link = get_or heads (group name) 0 }) name value spare ∷ its) (headed_at l heads p)
unfolding Linked
headed_new {n} {name} {value} {its} l heads p k spare e at small x =
    let f : Head = record { lock = k; link = get_or heads (group name) 0 } in
    rw (e, cell_is p (omega arith))
    (record {
      size = length-set heads (group name) p ∙ x.size;
      linked = (x.headed (group name) (group_below name), x.linked);
      headed = head_set heads n (group name) p (λ g. newest_in n g (defined f name value spare ∷ its)) (λ g. newest_in n g its) x.size (group_below name)
          (at ∙ sym (newest_own n f name value spare its)) (λ g h. sym (newest_other n g f name value spare its h)) x.headed;
    })

-- Definitions move ---------------------------------------------------------------------------------------------------

-- definitions over others, each linked to the newest of its group among those older than it
unfoldable pub relinked_items : ℕ → List Item → List Item → List Item
relinked_items n under [] = []
relinked_items n under (defined f name value spare ∷ its) =
    let r = relinked_items n under its in
    defined (record { lock = f.lock; link = newest_in n (group name) (r ++ under) }) name value spare ∷ r
relinked_items n under (listed to links reader list ∷ its) = listed to links reader list ∷ relinked_items n under its

module _ (n : ℕ) (under : List Item) where
  pub relinked-width : (its : List Item) → width (relinked_items n under its) ≡ width its
  unfolding relinked_items
  relinked-width [] = refl
  relinked-width (defined f name value spare ∷ its) =
      let g : Head = record { lock = f.lock; link = newest_in n (group name) (relinked_items n under its ++ under) } in
      omega (
        arith,
        width-cons (defined f name value spare) its,
        width-cons (defined g name value spare) (relinked_items n under its),
        definition_size f name value spare,
        definition_size g name value spare,
        relinked-width its,
      )
  relinked-width (listed to links reader list ∷ its) =
      omega (arith, width-cons (listed to links reader list) its, width-cons (listed to links reader list) (relinked_items n under its), relinked-width its)

  pub relinked-definitions : (its : List Item) → definitions_of (relinked_items n under its) ≡ definitions_of its
  unfolding relinked_items definitions_of
  relinked-definitions [] = refl
  relinked-definitions (defined f name value spare ∷ its) = rw (relinked-definitions its)
  relinked-definitions (listed to links reader list ∷ its) = relinked-definitions its

  pub relinked_only : (its : List Item) → Definitions its → Definitions (relinked_items n under its)
  unfolding relinked_items Definitions
  relinked_only [] h = h
  relinked_only (defined f name value spare ∷ its) h = relinked_only its h
  relinked_only (listed to links reader list ∷ its) h = absurd h

  relinked_linked : (its : List Item) → Linked n under → Linked n (relinked_items n under its ++ under)
  unfolding relinked_items Linked
  relinked_linked [] h = h
  relinked_linked (defined f name value spare ∷ its) h = (refl, relinked_linked its h)
  relinked_linked (listed to links reader list ∷ its) h = relinked_linked its h

  -- X are the items that the definitions stood over, before they moved up by so much to stand over `under`
  module _ (X : List Item) (small : n ≤ 65536) where
    -- where the newest of a group among them stands then, from where it stood
    newest-moved : (g : ℕ) (since : List Item) → Definitions since → width under ≤ width X → width (since ++ X) ≤ n
        → newest_in n g (relinked_items n under since ++ under)
        ≡ cond (ltb (newest_in n g (since ++ X)) (address n X)) (newest_in n g (since ++ X) + (width X - width under)) (newest_in n g under)
    unfolding newest_in relinked_items Definitions
    newest-moved g [] ds u w = rw (le-ltb (newest_in n g X) (address n X) (newest_above n g X small))
    newest-moved g (defined f name value spare ∷ since) ds u w =
        go (eqb (group name) g) (newest-moved g since ds u (omega (arith, width-cons (defined f name value spare) (since ++ X))))
      where
        i : Item
        i = defined f name value spare

        j : Item
        j = defined (record { lock = f.lock; link = newest_in n (group name) (relinked_items n under since ++ under) }) name value spare

        go : (t : Bool)
            → newest_in n g (relinked_items n under since ++ under)
            ≡ cond (ltb (newest_in n g (since ++ X)) (address n X)) (newest_in n g (since ++ X) + (width X - width under)) (newest_in n g under)
            → cond t (address n (j ∷ (relinked_items n under since ++ under))) (newest_in n g (relinked_items n under since ++ under))
            ≡ cond (ltb (cond t (address n (i ∷ (since ++ X))) (newest_in n g (since ++ X))) (address n X))
            (cond t (address n (i ∷ (since ++ X))) (newest_in n g (since ++ X)) + (width X - width under)) (newest_in n g under)
        go true e =
            let a = width-cons i (since ++ X) in
            let b = width-append since X in
            let c = width-cons j (relinked_items n under since ++ under) in
            let d = width-append (relinked_items n under since) under in
            let k = relinked-width since in
            let y = definition_size f name value spare in
            let z = definition_size (record { lock = f.lock; link = newest_in n (group name) (relinked_items n under since ++ under) }) name value spare in
            rw (lt-ltb (address n (i ∷ (since ++ X))) (address n X) (omega arith)) (omega arith)
        go false e = e
    newest-moved g (listed to links reader list ∷ since) ds u w = absurd ds

    -- the link of a definition that has moved
    link_moved_lem : (heads l : List ℕ) (p link : ℕ) (name : Bytes) (since : List Item) → Definitions since → width under ≤ width X → width (since ++ X) ≤ n
        → Index n under heads → definition_group l p ≡ group name → group_link l p ≡ link → link ≡ newest_in n (group name) (since ++ X)
        → link_moved l heads p (address n X) (width X - width under) ≡ newest_in n (group name) (relinked_items n under since ++ under)
    link_moved_lem heads l p link name since ds u w x e q is =
        rw (e, q, is, x.headed (group name) (group_below name), newest-moved (group name) since ds u w) (go (ltb k (address n X)) refl)
      where
        k : ℕ
        k = newest_in n (group name) (since ++ X)

        go : (t : Bool) → ltb k (address n X) ≡ t
            → cond t (cell (k + (width X - width under))) (newest_in n (group name) under) ≡ cond t (k + (width X - width under)) (newest_in n (group name) under)
        go true h = cell_is (k + (width X - width under)) (omega (arith, ltb-true k (address n X) h, width-append since X))
        go false h = refl

    -- the links of all that have moved, given turns enough
    pub relinked_in : (t : ℕ) (l heads front rest : List ℕ) (p to : ℕ) (since : List Item) → l ≡ front ++ (encode since ++ rest) → length front ≡ p
        → Definitions since → to ≡ p + width since → width since ≤ t → width under ≤ width X → width (since ++ X) ≤ n
        → Linked n (since ++ X) → Index n under heads
        → relinked_from t l heads p to (address n X) (width X - width under) ≡ front ++ (encode (relinked_items n under since) ++ rest)
    unfolding relinked_from relinked_items Definitions encode Linked
    relinked_in zero l heads front rest p to [] e s ds q w u fit k x = e
    relinked_in (suc t) l heads front rest p to [] e s ds q w u fit k x = rw (le-leb to p (omega arith)) e
    relinked_in zero l heads front rest p to (defined f name value spare ∷ since) e s ds q w u fit k x =
        absurd (omega (arith, width-cons (defined f name value spare) since, item-size (defined f name value spare)))
    relinked_in (suc t) l heads front rest p to (defined f name value spare ∷ since) e s ds q w u fit k x =
        let i : Item = defined f name value spare in
        let v = newest_in n (group name) (relinked_items n under since ++ under) in
        let j : Item = defined (record { lock = f.lock; link = v }) name value spare in
        let a = width-cons i since in
        let a₂ = width-cons i (since ++ X) in
        let z = item-size i in
        let sizes : length (encode_item j) ≡ length (encode_item i) = definition_size (record { lock = f.lock; link = v }) name value spare ∙ sym (definition_size f name value spare) in
        let more = encode since ++ rest in
        let at : drop p l ≡ encode (i ∷ since) ++ rest = ap (drop p) e ∙ drop_at front (encode (i ∷ since) ++ rest) p s in
        let head : List ℕ = f.lock ∷ length name ∷ (length value + length spare) ∷ length value ∷ [] in
        let split : l ≡ (front ++ head) ++ (f.link ∷ (name ++ (value ++ (spare ++ more)))) = e ∙ simp append_assoc in
        let set' : with_group_link l p v ≡ (front ++ encode_item j) ++ more =
        ap (λ (y : List ℕ). set y (p + 4) v) split
        ∙ set_at (front ++ head) f.link (name ++ (value ++ (spare ++ more))) v (p + 4) (omega (arith, length-append front head))
        ∙ simp append_assoc in
        rw (
          lt-leb to p (omega arith),
          link_moved_lem heads l p f.link name since ds u (omega arith) x (group_at l p f name value spare since rest at) (link_at l p f name value spare since rest at) k.0,
          definition_turned l p f name value spare since rest at,
        )
        (relinked_in t (with_group_link l p v) heads (front ++ encode_item j) rest (p + length (encode_item i)) to since set' (omega (arith, length-append front (encode_item j))) ds
        (omega arith) (omega arith) u (omega arith) k.1 x
        ∙ simp append_assoc)
    relinked_in t l heads front rest p to (listed a links reader list ∷ since) e s ds q w u fit k x = absurd ds

-- Definitions come back ----------------------------------------------------------------------------------------------

-- a head that stands before `to` is of one that came back already; any other is that of what stood there
abbrev Waits : ℕ → List Item → ℕ → List ℕ → Type 0
Waits n under to heads = (g : ℕ) → g < groups → ltb (get_or heads g 0) to ≡ false → get_or heads g 0 ≡ newest_in n g under

module _ (n : ℕ) (under : List Item) (to : ℕ) where
  -- what the heads are once the definitions `its` have come back
  record Restored (its : List Item) (heads heads' : List ℕ) : Type 0 where
    size : length heads' ≡ groups
    headed : (g : ℕ) → g < groups → get_or heads' g 0 ≡ cond (ltb (get_or heads g 0) to) (get_or heads g 0) (newest_in n g (its ++ under))

  restored-none : (heads : List ℕ) → length heads ≡ groups → Waits n under to heads → Restored [] heads heads
  restored-none heads s x = record { size = s; headed = λ g h. go g (ltb (get_or heads g 0) to) (x g h) }
    where
      go : (g : ℕ) (t : Bool) → (t ≡ false → get_or heads g 0 ≡ newest_in n g under) → get_or heads g 0 ≡ cond t (get_or heads g 0) (newest_in n g under)
      go g true e = refl
      go g false e = e refl

  -- one definition comes back
  module _ (heads : List ℕ) (k p : ℕ) (size : length heads ≡ groups) (small : k < groups) (before : p < to) where
    abbrev once : Bool → List ℕ
    once t = cond t heads (set heads k p)

    -- the head of its group
    once_own : (t : Bool) → ltb (get_or heads k 0) to ≡ t → (ltb (get_or (once t) k 0) to ≡ true) × (get_or (once t) k 0 ≡ cond t (get_or heads k 0) p)
    once_own true e = (e, refl)
    once_own false e =
        let q = get_or-set_same heads k p 0 (omega arith) in
        (ap (λ (j : ℕ). ltb j to) q ∙ lt-ltb p to before, q)

    -- and of any other
    once_other : (t : Bool) (g : ℕ) → (k ≡ g → ⊥) → get_or (once t) g 0 ≡ get_or heads g 0
    once_other true g h = refl
    once_other false g h = get_or-set_other heads k g p 0 (λ q. h (sym q))

    once_size : (t : Bool) → length (once t) ≡ groups
    once_size true = size
    once_size false = length-set heads k p ∙ size

    once_waits : (t : Bool) → ltb (get_or heads k 0) to ≡ t → Waits n under to heads → Waits n under to (once t)
    once_waits t e x g h q = go (eqb k g) refl
      where
        go : (b : Bool) → eqb k g ≡ b → get_or (once t) g 0 ≡ newest_in n g under
        go true y =
            let z : k ≡ g = eqb-true k g y in
            absurd (true≢false (sym (once_own t e).0 ∙ subst (λ (j : ℕ). ltb (get_or (once t) j 0) to ≡ false) (sym z) q))
        go false y =
            let z = once_other t g (eqb-false k g y) in
            z ∙ x g h (ap (λ (j : ℕ). ltb j to) (sym z) ∙ q)

    once_restored : (t : Bool) (f : Head) (name value spare : Bytes) (its : List Item) (heads' : List ℕ) → ltb (get_or heads k 0) to ≡ t → group name ≡ k
        → p ≡ address n (defined f name value spare ∷ (its ++ under)) → Restored its (once t) heads' → Restored (defined f name value spare ∷ its) heads heads'
    once_restored t f name value spare its heads' e is at r = record { size = r.size; headed = λ g h. go g h (eqb k g) refl }
      where
        own : (b : Bool) → ltb (get_or heads k 0) to ≡ b → cond b (get_or heads k 0) p ≡ cond b (get_or heads k 0) (newest_in n k (defined f name value spare ∷ (its ++ under)))
        own true y = refl
        own false y = at ∙ sym (subst (λ (j : ℕ). newest_in n j (defined f name value spare ∷ (its ++ under)) ≡ address n (defined f name value spare ∷ (its ++ under))) is (newest_own n f name value spare (its ++ under)))

        go : (g : ℕ) → g < groups → (b : Bool) → eqb k g ≡ b
            → get_or heads' g 0 ≡ cond (ltb (get_or heads g 0) to) (get_or heads g 0) (newest_in n g (defined f name value spare ∷ (its ++ under)))
        go g h true y =
            let z : k ≡ g = eqb-true k g y in
            subst (λ (j : ℕ). get_or heads' j 0 ≡ cond (ltb (get_or heads j 0) to) (get_or heads j 0) (newest_in n j (defined f name value spare ∷ (its ++ under)))) z
            (r.headed k small ∙ rw ((once_own t e).0, (once_own t e).1, e) (own t e))
        go g h false y =
            let z = once_other t g (eqb-false k g y) in
            r.headed g h ∙ rw (z, newest_other n g f name value spare (its ++ under) (λ q. eqb-false k g y (sym is ∙ q)))

  -- all of them, the newest first, given turns enough
  restored_in : (t : ℕ) (l heads : List ℕ) (p : ℕ) (its : List Item) (rest : List ℕ) → drop p l ≡ encode its ++ rest → Definitions its
      → to ≡ p + width its → width its ≤ t → p + width (its ++ under) ≡ n → to ≤ 65536 → length heads ≡ groups → Waits n under to heads
      → Restored its heads (restored_from t l heads p to)
  unfolding restored_from Definitions encode
  restored_in zero l heads p [] rest e ds q w at small s x = restored-none heads s x
  restored_in (suc t) l heads p [] rest e ds q w at small s x = rw (le-leb to p (omega arith)) (restored-none heads s x)
  restored_in zero l heads p (defined f name value spare ∷ its) rest e ds q w at small s x =
      absurd (omega (arith, width-cons (defined f name value spare) its, item-size (defined f name value spare)))
  restored_in (suc t) l heads p (defined f name value spare ∷ its) rest e ds q w at small s x =
      let i : Item = defined f name value spare in
      let a = width-cons i its in
      let z = item-size i in
      let k = group name in
      let b = ltb (get_or heads k 0) to in
      let before : p < to = omega arith in
      let y = group_below name in
      rw (lt-leb to p (omega arith), group_at l p f name value spare its rest e, cell_is p (omega arith), definition_turned l p f name value spare its rest e)
      (once_restored heads k p s y before b f name value spare its (restored_from t l (cond b heads (set heads k p)) (p + length (encode_item i)) to) refl refl (omega arith)
      (restored_in t l (cond b heads (set heads k p)) (p + length (encode_item i)) its rest (drop-item l p i its rest e) ds (omega arith) (omega arith)
      (omega (arith, width-cons i (its ++ under))) small (once_size heads k p s y before b) (once_waits heads k p s y before b refl x)))
  restored_in t l heads p (listed a links reader list ∷ its) rest e ds q w at small s x = absurd ds

-- The end of a body --------------------------------------------------------------------------------------------------

-- `since` stood over X and has moved to stand over `under`, of which the heads are the index
pub shifted_index : (n : ℕ) (under since : List Item) (l heads rest : List ℕ) (p to : ℕ) → n ≤ 65536 → Definitions since
    → drop p l ≡ encode (relinked_items n under since) ++ rest → to ≡ p + width since → to ≡ address n under → width since + width under ≤ n → to ≤ length l
    → Index n under heads → Index n (relinked_items n under since ++ under) (restored l heads p to)
shifted_index n under since l heads rest p to small ds e q at fit within x =
    let k = relinked-width n under since in
    let r = restored_in n under to (length l) l heads p (relinked_items n under since) rest e (relinked_only n under since ds) (omega arith) (omega arith)
    (omega (arith, width-append (relinked_items n under since) under)) (omega (arith, small)) x.size (λ g h z. x.headed g h) in
    record {
      size = r.size;
      linked = relinked_linked n under since x.linked;
      headed = λ g h. r.headed g h ∙ rw (x.headed g h, le-ltb (newest_in n g under) to (omega (arith, newest_above n g under small)));
    }

-- no definitions, no heads
pub no_index : (n : ℕ) → Index n [] (no_heads groups)
unfolding Linked newest_in no_heads
no_index n = record { size = refl; linked = tt; headed = λ g h. marks groups g h }
  where
    marks : (k g : ℕ) → g < k → get_or (no_heads k) g 0 ≡ mark
    marks zero g h = absurd (omega arith)
    marks (suc k) zero h = refl
    marks (suc k) (suc g) h = marks k g (omega arith)
