-- The loops over the cases of `invert`: the case of a name, and all of them, one a name. Assumes nothing.
use mathlib.Core.Path.{◌≡◌, refl, sym, ap, ◌∙◌, subst}
use mathlib.Core.Bool.{Bool, true, false, not}
use Rattle.std.specs.Prelude.{⊤, Option, Some as some, None as nothing}
use mathlib.Core.List.{List, [], ◌∷◌, ◌++◌, append_assoc}
use Rattle.std.specs.Option.{is_some as is_there}
use Prim.Native.Nat.{ℕ, zero, suc, ◌+◌, ◌<◌, ◌≤◌}
use native.Mathlib.Omega.{arith}
use native.Mathlib.Numerals.{add-one}
use native.Mathlib.Decide.{dec_lt}
use lib.ListN.{length, get_or, take, drop, drop_of_length-le, length-append, length-drop, get_or-append}
use lib.Seq.{drop-cons, get_or-append-add, take-append_seam}
use denote.Ref.{Bor}
use Rattle.rules.specs.Text.{same}
use Rattle.rules.specs.Out.{ok, refuse, ask}
use Rattle.rules.specs.Sexp.{Sexp, Sexps, atom, nil, cons, count, item, rest}
use Rattle.rules.specs.Find.{any}
use Rattle.rules.specs.Store.{Made}
use Rattle.rules.specs.State.{State}
use Rattle.rules.specs.Invert.{Case, case_named, read_case, read_cases}
use Rattle.rules.specs.Laws.Store.{then_ok, then_refuse}
use Rattle.rules.specs.Laws.Sexp.{rest_item, rest_none}
use Rattle.sexp.specs.Encode.{encode, encodes}
use Rattle.sexp.specs.Spelt.{Spells}
use Rattle.sexp.specs.Items.{Holds, item_at, behind}
use Rattle.sexp.specs.Never.{never}
use Rattle.casework.specs.Laws.CaseItems.{list_items, not_both}
use Rattle.sexp.specs.Each.{HeadIs, ListOf, Over, Step, Walks, over, here as step, Here as Stepped}
use Rattle.sexp.specs.declared.items.Each.{Each}
use Rattle.std.specs.Option.{MatchOption}
use Rattle.std.specs.List.{FoldsTo}
use Rattle.std.specs.Fn.{CalledAt}
use denote.Param.Members.{Mut}
use Rattle.std.specs.Iterator.{Yields, CallableAtEachTurn}
use Rattle.std.proofs.lemmas.Fn.{serves_by}
use Rattle.sexp.specs.WalkLaws.{Walk, walk_start, walk_over, walk_rest}
use Rattle.reading.specs.Laws.Walks.{Here, here, go_on}
use Rattle.casework.specs.Cases.{no_case, CaseItem, CaseFirst, CasesIn, CaseHere, CaseFound, Kept, Naming, CasesAre}
use Rattle.casework.specs.declared.distinct.NameTree.{NameTree}

-- Its name -----------------------------------------------------------------------------------------------------------------------------------

module _ {text cells : List ℕ} (g : CaseFirst text cells) {part : List ℕ} (l : ListOf text cells g.x part) where
  inner_name : item l.items 0 ≡ atom g.case.place g.c.name
  inner_name = ap (λ (z : Sexps). item z 0) (list_items l.items g.case.inner (sym l.is ∙ g.case.is)) ∙ g.case.named

  -- an atom with the name, and no list
  pub named_same : (name : List ℕ) {b : Bool} (o : Option (Bor (List ℕ))) → HeadIs (item l.items 0) o → MatchOption o (b ≡ false) (λ own. b ≡ same own.now name) → b ≡ same g.c.name name
  named_same name nothing h e = not_both (item l.items 0) h.0 g.case.place g.c.name h.1 inner_name
  named_same name (some own) h e =
      e ∙ ap (λ (bs : List ℕ). same bs name) (let z : atom h.0 own.now ≡ atom g.case.place g.c.name = sym h.1 ∙ inner_name in cc)

-- The case of a name -------------------------------------------------------------------------------------------------------------------------

pub named_yes : (cs : List Case) (name : List ℕ) (k : ℕ) → k < length cs → same (get_or cs k no_case).name name ≡ true → case_named (drop k cs) name ≡ some (get_or cs k no_case)
unfolding case_named
named_yes cs name k l e =
    ap (λ (ds : List Case). case_named ds name) (drop-cons cs k no_case l)
    ∙ ap (λ (b : Bool). elim b [ true ↦ some (get_or cs k no_case) | false ↦ case_named (drop (suc k) cs) name ]) e

pub named_no : (cs : List Case) (name : List ℕ) (k : ℕ) → k < length cs → same (get_or cs k no_case).name name ≡ false → case_named (drop k cs) name ≡ case_named (drop (k + 1) cs) name
unfolding case_named
named_no cs name k l e =
    ap (λ (ds : List Case). case_named ds name) (drop-cons cs k no_case l)
    ∙ ap (λ (b : Bool). elim b [ true ↦ some (get_or cs k no_case) | false ↦ case_named (drop (suc k) cs) name ]) e
    ∙ ap (λ (j : ℕ). case_named (drop j cs) name) (sym (add-one k))

named_over : (cs : List Case) (name : List ℕ) (k : ℕ) → length cs ≤ k → case_named (drop k cs) name ≡ nothing
unfolding case_named
named_over cs name k l = ap (λ (ds : List Case). case_named ds name) (drop_of_length-le cs l)

count_rest : (xs : Sexps) (k : ℕ) → k ≤ count xs → rest xs k ≡ nil → count xs ≤ k
unfolding count rest
count_rest nil k l e = omega arith
count_rest (cons x xs) zero l e = never cc
count_rest (cons x xs) (suc k) l e = let z = count_rest xs k (omega arith) e in omega arith

cons_more : (xs : Sexps) (k : ℕ) (x : Sexp) (ys : Sexps) → rest xs k ≡ cons x ys → k < count xs
unfolding count rest
cons_more nil k x ys e = never cc
cons_more (cons z zs) zero x ys e = omega arith
cons_more (cons z zs) (suc k) x ys e = let l = cons_more zs k x ys e in omega arith

-- where a walk over the cases stands
pub record Stands {text cells : List ℕ} (g : CasesIn text cells) (s : Each) : Type 0 where
  pub cells_same : s.cells.now ≡ cells
  pub k : ℕ
  pub walk : Walk text cells s.at (rest g.xs k)
  pub few : k ≤ count g.xs

module _ {text cells : List ℕ} (g : CasesIn text cells) where
  abbrev pub stands_start : {s : Each} → s.cells.now ≡ cells → s.at ≡ 0 → Stands g s
  stands_start {s} c a = record {
    cells_same = c;
    k = 0;
    walk = subst (λ (n : ℕ). Walk text cells n (rest g.xs 0)) (sym a) (subst (λ (z : Sexps). Walk text cells 0 z) (sym (rest_none g.xs)) (walk_start g.holds));
    few = omega arith;
  }

  module _ {s : Each} (h : Stands g s) where
    stands_over : {t : Each} (name : List ℕ) → Over s t → case_named (drop h.k g.cs) name ≡ nothing
    stands_over name o = named_over g.cs name h.k (let n = count_rest g.xs h.k h.few (walk_over h.walk (over h.cells_same o)) in omega (arith, g.many, n))

    module _ {x : Bor (List ℕ)} {t : Each} (st : Step s x t) where
      stepped : Stepped cells x.now s.at t
      stepped = step h.cells_same st

      left_now : h.k < count g.xs
      left_now = let w = here h.walk stepped.inside in cons_more g.xs h.k w.x w.ys w.is

      item_walk : Walk text cells s.at (cons (item g.xs h.k) (rest g.xs (suc h.k)))
      item_walk = subst (λ (z : Sexps). Walk text cells s.at z) (rest_item g.xs h.k left_now) h.walk

      stands_first : CaseFirst text x.now
      stands_first = record {
        vs = g.vs;
        x = item g.xs h.k;
        ys = rest g.xs (suc h.k);
        c = get_or g.cs h.k no_case;
        holds = subst (λ (c : List ℕ). Holds text c (cons (item g.xs h.k) (rest g.xs (suc h.k)))) (sym stepped.is) (walk_rest item_walk);
        case = g.cases h.k left_now;
      }

      stands_on : Stands g t
      stands_on = record {
        cells_same = stepped.same;
        k = h.k + 1;
        walk = subst (λ (j : ℕ). Walk text cells t.at (rest g.xs j)) (sym (add-one h.k))
            (go_on (record { x = item g.xs h.k; ys = rest g.xs (suc h.k); is = rest_item g.xs h.k left_now; walk = item_walk; holds = walk_rest item_walk }) stepped.behind).walk;
        few = let n = left_now in omega (arith, n);
      }

      stands_found : (name : List ℕ) → case_named g.cs name ≡ case_named (drop h.k g.cs) name → true ≡ same (get_or g.cs h.k no_case).name name →
          CaseHere g.vs text cells g.cs name x.now
      stands_found name w e =
          record {
            c = get_or g.cs h.k no_case;
            is = w ∙ named_yes g.cs name h.k (let n = left_now in omega (arith, g.many, n)) (sym e);
            x = item g.xs h.k;
            ys = rest g.xs (suc h.k);
            p = s.at;
            from = stepped.is;
            walk = item_walk;
            there = stepped.inside;
            case = g.cases h.k left_now;
          }

  came_to : (xs : List (Bor (List ℕ))) {s t : Each} → Stands g s → Yields Walks s xs t → Stands g t
  came_to [] h e = subst (λ z. Stands g z) e h
  came_to (x ∷ xs) h (j, st, y) = came_to xs (stands_on h st) y

  -- what may be asked of each
  pub serves_cases : {P : Type 0} {R : P → Bor (List ℕ) → P → Type 0} {Q : P → Bor (List ℕ) → Type 0} {s : Each} {p : P} → Stands g s →
      ((x : Bor (List ℕ)) (q : P) → R p x q → q ≡ p) → ((x : Bor (List ℕ)) → CaseFirst text x.now → Q p x) → CallableAtEachTurn Walks R Q s p
  serves_cases {P} {R} {Q} {s} {p} h keeps asks =
      serves_by R (λ xs (q : P). q ≡ p) (λ xs q x v j r. keeps x v (subst (λ (k : P). R k x v) j r)) Walks Q s p refl
      (λ xs t q x u y e j. subst (λ (k : P). Q k x) (sym j) (asks x (stands_first (came_to xs h y) e)))

  -- the name is compared with that of the case that was shown
  abbrev pub Compares : List ℕ → Bor (List ℕ) → Bool → Type 0
  Compares name x b = (y : Bor (List ℕ)) × (y ≡ x) × ((h : CaseFirst text y.now) → b ≡ same h.c.name name)

  compared : (name : List ℕ) (x : Bor (List ℕ)) (b : Bool) → Compares name x b → (h : CaseFirst text x.now) → b ≡ same h.c.name name
  compared name x b c = subst (λ (z : Bor (List ℕ)). (h : CaseFirst text z.now) → b ≡ same h.c.name name) c.1 c.2

  -- the first one that a closure answers true of, which compares names
  module _ {F : Type 0} (f : F) (name : List ℕ) {k : Mut F (Bor (Bor (List ℕ)) × Unit {0}) Bool} where
    pub first_case : (xs : List (Bor (List ℕ))) {s : Each} (t u : Each) (j : F) (r : Option (Bor (List ℕ))) (h : Stands g s) → case_named g.cs name ≡ case_named (drop h.k g.cs) name →
        Yields Walks s xs t → Walks t r u → FoldsTo (λ p x q. CalledAt k p x false q) f xs j → MatchOption r ⊤ (λ x. (q : F) × CalledAt k j x true q) →
        ((x : Bor (List ℕ)) (b : Bool) (q : F) → CalledAt k f x b q → (q ≡ f) × Compares name x b) → CaseFound g.vs text cells g.cs name r
    unfolding stands_first stands_on
    first_case [] {s} t u j nothing h w y o l m says = w ∙ stands_over h name (subst (λ (z : Each). Over z u) (sym y) o)
    first_case [] {s} t u j (some x) h w y o l m says =
        let st : Step s x u = subst (λ (z : Each). Step z x u) (sym y) o in
        stands_found h st name w (compared name x true (says x true m.0 (subst (λ (z : F). CalledAt k z x true m.0) (sym l) m.1)).1 (stands_first h st))
    first_case (x ∷ xs) t u j r h w (i, st, y) o (v, c, l) m says =
        let z = says x false v c in
        first_case xs t u j r (stands_on h st)
        (w ∙ named_no g.cs name h.k (let n = left_now h st in omega (arith, g.many, n)) (sym (compared name x false z.1 (stands_first h st))))
        y o (subst (λ (p : F). FoldsTo (λ p x q. CalledAt k p x false q) p xs j) z.0 l) m says

-- One case a name ------------------------------------------------------------------------------------------------------------------------------

unfoldable is_some : Option Case → Bool
is_some nothing = false
is_some (some c) = true

any_named : (cs : List Case) (name : List ℕ) → any (λ (d : Case). same d.name name) cs ≡ is_some (case_named cs name)
unfolding any case_named is_some
any_named [] name = refl
any_named (c ∷ cs) name = go (same c.name name) (any_named cs name)
  where
    go : (b : Bool) → any (λ (d : Case). same d.name name) cs ≡ is_some (case_named cs name) →
        elim b [ true ↦ true | false ↦ any (λ (d : Case). same d.name name) cs ] ≡ is_some (elim b [ true ↦ some c | false ↦ case_named cs name ])
    go true h = refl
    go false h = h

pub any_there : (cs : List Case) (name : List ℕ) (c : Case) → case_named cs name ≡ some c → true ≡ any (λ (d : Case). same d.name name) cs
unfolding is_some
any_there cs name c e = sym (any_named cs name ∙ ap is_some e)

pub any_nowhere : (cs : List Case) (name : List ℕ) → case_named cs name ≡ nothing → false ≡ any (λ (d : Case). same d.name name) cs
unfolding is_some
any_nowhere cs name e = sym (any_named cs name ∙ ap is_some e)

-- All cases --------------------------------------------------------------------------------------------------------------------------------------

module _ (S : State) (x : Sexp) (ys : Sexps) (cs : List Case) (M : Made) where
  read_no : (q d : ℕ) → read_case S x M ≡ refuse q d M → read_cases S (cons x ys) cs M ≡ refuse q d M
  unfolding read_cases
  read_no q d e = then_refuse (read_case S x M) q d M _ e

  module _ (c : Case) (e : read_case S x M ≡ ok c M) where
    read_twice : any (λ (d : Case). same d.name c.name) cs ≡ true → read_cases S (cons x ys) cs M ≡ refuse 41 0 M
    unfolding read_cases
    read_twice a = then_ok (read_case S x M) c M _ e ∙ then_refuse _ 41 0 M _ (ap (λ (b : Bool). ask 41 (not b) M) a)

    read_more : any (λ (d : Case). same d.name c.name) cs ≡ false → read_cases S (cons x ys) cs M ≡ read_cases S ys (cs ++ (c ∷ [])) M
    unfolding read_cases
    read_more a = then_ok (read_case S x M) c M _ e ∙ then_ok _ tt M _ (ap (λ (b : Bool). ask 41 (not b) M) a)

-- The items in front ------------------------------------------------------------------------------------------------------------------------------

unfoldable pub front : Sexps → ℕ → Sexps
front nil k = nil
front (cons x xs) zero = nil
front (cons x xs) (suc k) = cons x (front xs k)

pub front_count : (xs : Sexps) (k : ℕ) → k ≤ count xs → count (front xs k) ≡ k
unfolding count front
front_count nil k l = omega arith
front_count (cons x xs) zero l = refl
front_count (cons x xs) (suc k) l = ap suc (front_count xs k (omega arith))

pub front_item : (xs : Sexps) (k i : ℕ) → i < k → item (front xs k) i ≡ item xs i
unfolding item front
front_item nil k i l = refl
front_item (cons x xs) zero i l = absurd (omega (arith, l))
front_item (cons x xs) (suc k) zero l = refl
front_item (cons x xs) (suc k) (suc i) l = front_item xs k i (omega arith)

front_spells : (text : List ℕ) (xs : Sexps) (k : ℕ) → Spells text xs → Spells text (front xs k)
unfolding front
front_spells text nil k s = tt
front_spells text (cons x xs) zero s = tt
front_spells text (cons x xs) (suc k) s = (s.0, front_spells text xs k s.1)

front_encodes : (xs : Sexps) (k : ℕ) → encodes xs ≡ encodes (front xs k) ++ encodes (rest xs k)
unfolding front rest encode
front_encodes nil k = refl
front_encodes (cons x xs) zero = refl
front_encodes (cons x xs) (suc k) = ap (λ (ys : List ℕ). encode x ++ ys) (front_encodes xs k) ∙ sym (append_assoc (encode x) (encodes (front xs k)) (encodes (rest xs k)))

pub front_holds : {text cells : List ℕ} {at : ℕ} (xs : Sexps) (k : ℕ) → Holds text cells xs → Walk text cells at (rest xs k) → Holds text (take at cells) (front xs k)
front_holds {text} {cells} {at} xs k h w =
    let e : cells ≡ encodes (front xs k) ++ encodes (rest xs k) = h.cells ∙ front_encodes xs k in
    let n : at ≡ length (encodes (front xs k)) =
    omega (arith, ap length e ∙ length-append (encodes (front xs k)) (encodes (rest xs k)), length-drop at cells, ap length w.here.lies, w.here.high) in
    record {
      cells = (λ i. take (n i) (e i)) ∙ take-append_seam (encodes (front xs k)) (encodes (rest xs k));
      spelt = front_spells text xs k h.spelt;
    }

-- these are read; the rest is left
pub record Casing (S : State) (xs : Sexps) (text cells : List ℕ) (t : NameTree) (at : ℕ) : Type 0 where
  pub k : ℕ
  pub cs : List Case
  pub walk : Walk text cells at (rest xs k)
  pub whole : (M : Made) → read_cases S xs [] M ≡ read_cases S (rest xs k) cs M
  pub many : length cs ≡ k
  pub few : k ≤ count xs
  pub cases : (i : ℕ) → i < k → CaseItem S.vars (item xs i) (get_or cs i no_case)
  pub kept : Kept t cs

pub casing_start : (S : State) (xs : Sexps) {text cells : List ℕ} {t : NameTree} → Holds text cells xs → Kept t [] → Casing S xs text cells t 0
casing_start S xs {text} {cells} h w =
    record {
      k = 0;
      cs = [];
      walk = subst (λ (z : Sexps). Walk text cells 0 z) (sym (rest_none xs)) (walk_start h);
      whole = λ M. ap (λ (z : Sexps). read_cases S z [] M) (sym (rest_none xs));
      many = refl;
      few = omega arith;
      cases = λ i l. absurd (omega (arith, l));
      kept = w;
    }

module _ {S : State} {xs : Sexps} {text cells : List ℕ} {t : NameTree} {at : ℕ} (h : Casing S xs text cells t at) where
  pub casing_over : length cells ≤ at → CasesAre S xs
  unfolding read_cases
  casing_over l =
      let e = walk_over h.walk l in
      let n = count_rest xs h.k h.few e in
      let f = h.few in
      record {
        cs = h.cs;
        read = λ M. h.whole M ∙ ap (λ (z : Sexps). read_cases S z h.cs M) e;
        many = omega (arith, h.many, n, f);
        cases = λ i j. h.cases i (omega (arith, j, n, f));
      }

  -- what `is_taken` asks
  abbrev pub casing_first : Holds text cells xs → t.text.now ≡ text → {part : List ℕ} → part ≡ take at cells → Naming t part
  casing_first w e f = record {
    first = record {
      vs = S.vars;
      xs = front xs h.k;
      cs = h.cs;
      holds = rw (e, f) (front_holds xs h.k w h.walk);
      many = h.many ∙ sym (front_count xs h.k h.few);
      cases = λ i l.
          let j : i < h.k = omega (arith, l, front_count xs h.k h.few) in
          subst (λ (x : Sexp). CaseItem S.vars x (get_or h.cs i no_case)) (sym (front_item xs h.k i j)) (h.cases i j);
    };
    kept = h.kept;
  }

  module _ (l : at < length cells) where
    pub casing_here : Here text cells at (rest xs h.k)
    casing_here = here h.walk l

    left : h.k < count xs
    left = cons_more xs h.k casing_here.x casing_here.ys casing_here.is

    step_rest : rest xs h.k ≡ cons (item xs h.k) (rest xs (suc h.k))
    step_rest = rest_item xs h.k left

    same_item : casing_here.x ≡ item xs h.k
    same_item = let z : cons casing_here.x casing_here.ys ≡ cons (item xs h.k) (rest xs (suc h.k)) = sym casing_here.is ∙ step_rest in cc

    same_rest : casing_here.ys ≡ rest xs (suc h.k)
    same_rest = let z : cons casing_here.x casing_here.ys ≡ cons (item xs h.k) (rest xs (suc h.k)) = sym casing_here.is ∙ step_rest in cc

    opened : (M : Made) → read_cases S xs [] M ≡ read_cases S (cons casing_here.x casing_here.ys) h.cs M
    opened M = h.whole M ∙ ap (λ (z : Sexps). read_cases S z h.cs M) casing_here.is

    pub casing_no : (q d : ℕ) → ((M : Made) → read_case S casing_here.x M ≡ refuse q d M) → (M : Made) → read_cases S xs [] M ≡ refuse q d M
    casing_no q d e M = opened M ∙ read_no S casing_here.x casing_here.ys h.cs M q d (e M)

    module _ (c : Case) (e : (M : Made) → read_case S casing_here.x M ≡ ok c M) where
      pub casing_twice : (b : Bool) → b ≡ any (λ (d : Case). same d.name c.name) h.cs → b ≡ true → (M : Made) → read_cases S xs [] M ≡ refuse 41 0 M
      casing_twice b a t M = opened M ∙ read_twice S casing_here.x casing_here.ys h.cs M c (e M) (sym a ∙ t)

      pub casing_more : (b : Bool) → b ≡ any (λ (d : Case). same d.name c.name) h.cs → b ≡ false → CaseItem S.vars casing_here.x c →
          {next : ℕ} {u : NameTree} → Kept u (h.cs ++ (c ∷ [])) → next ≡ behind at (item_at cells at) → Casing S xs text cells u next
      casing_more b a t i {next} w n =
          let k = h.k in
          let j : k + 1 ≡ suc k = add-one k in
          let lk = left in
          let len : length (h.cs ++ (c ∷ [])) ≡ k + 1 = length-append h.cs (c ∷ []) ∙ ap (λ (z : ℕ). z + 1) h.many in
          record {
            k = k + 1;
            cs = h.cs ++ (c ∷ []);
            walk = subst (λ (z : Sexps). Walk text cells next z) (same_rest ∙ ap (rest xs) (sym j)) (go_on casing_here n).walk;
            whole = λ M. opened M ∙ read_more S casing_here.x casing_here.ys h.cs M c (e M) (sym a ∙ t)
                ∙ ap (λ (z : Sexps). read_cases S z (h.cs ++ (c ∷ [])) M) (same_rest ∙ ap (rest xs) (sym j));
            many = len;
            few = omega (arith, lk);
            cases = λ y q. elim (dec_lt y k) [
              | yes p ↦ subst (λ (d : Case). CaseItem S.vars (item xs y) d) (sym (get_or-append h.cs (c ∷ []) no_case y (omega (arith, p, h.many)))) (h.cases y p)
              | no p ↦ last y (omega (arith, p, q)) i
            ];
            kept = w;
          }
        where
          last : (y : ℕ) → y ≡ h.k → CaseItem S.vars casing_here.x c → CaseItem S.vars (item xs y) (get_or (h.cs ++ (c ∷ [])) y no_case)
          last y e i =
              let z : y ≡ length h.cs + 0 = omega (arith, e, h.many) in
              let d : get_or (h.cs ++ (c ∷ [])) y no_case ≡ c =
              ap (λ (w : ℕ). get_or (h.cs ++ (c ∷ [])) w no_case) z ∙ get_or-append-add h.cs (c ∷ []) 0 no_case in
              subst (λ (b : Case). CaseItem S.vars (item xs y) b) (sym d)
              (subst (λ (b : Sexp). CaseItem S.vars b c) (same_item ∙ ap (item xs) (sym e)) i)

-- What `is_among` learns --------------------------------------------------------------------------------------------------------------------------

module _ {text cells : List ℕ} (g : CasesIn text cells) (name : List ℕ) (r : Option (Bor (List ℕ))) (f : CaseFound g.vs text cells g.cs name r) where
  pub found_is : {b : Bool} → b ≡ is_there r → b ≡ any (λ (d : Case). same d.name name) g.cs
  found_is e = e ∙ go r refl
    where
      go : (o : Option (Bor (List ℕ))) → r ≡ o → is_there o ≡ any (λ (d : Case). same d.name name) g.cs
      go (some p) q =
          let h : CaseHere g.vs text cells g.cs name p.now = subst (λ (z : Option (Bor (List ℕ))). CaseFound g.vs text cells g.cs name z) q f in
          any_there g.cs name h.c h.is
      go nothing q = any_nowhere g.cs name (subst (λ (z : Option (Bor (List ℕ))). CaseFound g.vs text cells g.cs name z) q f)
