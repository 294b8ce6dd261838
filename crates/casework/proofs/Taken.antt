-- Whether a case has a name, by the tree of their names or by a look at each; and the names of one more. Assumes nothing.
use mathlib.Core.Path.{◌≡◌, refl, sym, ap, ◌∙◌}
use mathlib.Core.Bool.{Bool, true, false, true≢false}
use mathlib.Core.List.{List, [], ◌∷◌, ◌++◌}
use Prim.Native.Nat.{ℕ, zero, suc, ◌+◌, ◌-◌, ◌*◌, ◌<◌, ◌≤◌}
use native.Mathlib.Omega.{arith}
use native.Mathlib.Decide.{dec_lt}
use lib.ListN.{length, get_or, replicate, length-replicate, length-append, get_or-append}
use lib.Seq.{get_or-append-add}
use Rattle.rules.specs.Limits.{LENGTH}
use Rattle.rules.specs.Text.{same}
use Rattle.rules.specs.Find.{any}
use Rattle.rules.specs.Invert.{Case}
use Rattle.rules.specs.Laws.Text.{same_self, same_equal}
use Rattle.terms.specs.Laws.Zeros.{get_d_zeros}
use Rattle.casework.specs.Distinct.{name_of, TreeIn, IsMet, Entered, EnteredIn, SameNames}
use Rattle.casework.specs.declared.distinct.NameTree.{NameTree}
use Rattle.casework.specs.Cases.{no_case, Named, Kept, Naming, TakenAs}

-- A case with the name -------------------------------------------------------------------------------------------------------------------------

any_at : (name : List ℕ) (cs : List Case) (k : ℕ) → k < length cs → (get_or cs k no_case).name ≡ name → true ≡ any (λ (d : Case). same d.name name) cs
unfolding any
any_at name [] k l e = absurd (omega (arith, l))
any_at name (c ∷ cs) zero l e =
    sym (ap (λ (b : Bool). elim b [ true ↦ true | false ↦ any (λ (d : Case). same d.name name) cs ]) (ap (λ (m : List ℕ). same m name) e ∙ same_self name))
any_at name (c ∷ cs) (suc k) l e = go (same c.name name) (any_at name cs k (omega arith) e)
  where
    go : (b : Bool) → true ≡ any (λ (d : Case). same d.name name) cs → true ≡ elim b [ true ↦ true | false ↦ any (λ (d : Case). same d.name name) cs ]
    go true h = refl
    go false h = h

any_none : (name : List ℕ) (cs : List Case) → ((k : ℕ) → k < length cs → (get_or cs k no_case).name ≡ name → ⊥) → false ≡ any (λ (d : Case). same d.name name) cs
unfolding any
any_none name [] f = refl
any_none name (c ∷ cs) f = go (same c.name name) refl (any_none name cs (λ k l. f (suc k) (omega (arith, l))))
  where
    go : (b : Bool) → same c.name name ≡ b → false ≡ any (λ (d : Case). same d.name name) cs →
        false ≡ elim b [ true ↦ true | false ↦ any (λ (d : Case). same d.name name) cs ]
    go true q h = absurd (f 0 (omega arith) (same_equal c.name name q))
    go false q h = h

-- The names of no case -------------------------------------------------------------------------------------------------------------------------

module _ (n : ℕ) (t : NameTree) (p : t.places.now ≡ replicate n 0) (k : t.links.now ≡ replicate n 0) (m : t.many ≡ 0) where
  no_link : (c : ℕ) → ◌≡◌ {A = ℕ} (get_or t.links.now c 0) 0
  no_link c = ap (λ (xs : List ℕ). get_or xs c 0) k ∙ get_d_zeros n c

  pub kept_none : n ≤ LENGTH → Kept t []
  kept_none l = record {
    even = ap length k ∙ sym (ap length p);
    short = let e = ap length p ∙ length-replicate {A = ℕ} n 0 in omega (arith, e, l);
    few = omega (arith, m);
    named = λ _ r. record {
      tree = record {
        even = ap length k ∙ sym (ap length p);
        room = omega (arith, r, m);
        known = λ c. let e = no_link c in omega (arith, e);
        rise = λ c h. let e = no_link c in absurd (omega (arith, e, h));
        low = λ i s h. absurd (omega (arith, s, h, m));
        high = λ i s h. absurd (omega (arith, s, h, m));
        there = λ i s h. absurd (omega (arith, s, h, m));
      };
      many = sym m;
      each = λ i h. absurd (omega (arith, h));
    };
    least = omega (arith, m);
    counted = λ _ _. sym m;
  }

-- What `is_taken` learns -----------------------------------------------------------------------------------------------------------------------

module _ {t : NameTree} {cells : List ℕ} (g : Naming t cells) where
  -- the tables have no room for one more
  pub taken_among : {r : Bool} (name : List ℕ) → r ≡ any (λ (d : Case). same d.name name) g.first.cs →
      (length t.text.now ≤ LENGTH → 2 * t.many + 4 ≤ length t.places.now → ⊥) → TakenAs t g.first.cs name r
  taken_among name e q = record {
    is = e;
    more = λ y c m.
        let n = length-append g.first.cs (c ∷ []) in
        let k = g.kept.least in
        record {
          even = g.kept.even;
          short = g.kept.short;
          few = g.kept.few;
          named = λ a l. absurd (q a (omega (arith, l, n, k)));
          least = omega (arith, n, k);
          counted = λ a l. absurd (q a l);
        };
  }

  -- they have
  module _ (a : length t.text.now ≤ LENGTH) (l : 2 * t.many + 4 ≤ length t.places.now) where
    names_now : Named t g.first.cs
    names_now = g.kept.named a (let z = g.kept.counted a l in omega (arith, z, l))

    is_met : (name : List ℕ) → IsMet t.text.now t.places.now t.many name → true ≡ any (λ (d : Case). same d.name name) g.first.cs
    is_met name m =
        let z = names_now.many in
        let s = m.some in
        let f = m.few in
        let k : m.n - 1 < length g.first.cs = omega (arith, z, s, f) in
        let j : m.n ≡ m.n - 1 + 1 = omega (arith, s) in
        any_at name g.first.cs (m.n - 1) k (sym (names_now.each (m.n - 1) k) ∙ ap (name_of t.text.now t.places.now) (sym j) ∙ m.is)

    module _ {u : NameTree} (w : SameNames t u) (name : List ℕ) (e : Entered t.text.now t.places.now u.places.now u.links.now t.many u.many name) where
      is_new_lem : false ≡ any (λ (d : Case). same d.name name) g.first.cs
      is_new_lem =
          any_none name g.first.cs
          (λ k h q. let z = names_now.many in e.new (k + 1) (omega arith) (omega (arith, z, h)) (names_now.each k h ∙ q))

      same_name : (n : ℕ) → name_of u.text.now u.places.now n ≡ name_of t.text.now u.places.now n
      same_name n = λ i. name_of (w.text i).now u.places.now n

      each_more : (c : Case) → c.name ≡ name → (k : ℕ) → k < length (g.first.cs ++ (c ∷ [])) →
          name_of t.text.now u.places.now (k + 1) ≡ (get_or (g.first.cs ++ (c ∷ [])) k no_case).name
      each_more c m k h = elim (dec_lt k (length g.first.cs)) [
        | yes p ↦
            e.others (k + 1) (let z = names_now.many in omega (arith, z, p)) ∙ names_now.each k p
            ∙ ap (λ (d : Case). d.name) (sym (get_or-append g.first.cs (c ∷ []) no_case k p))
        | no q ↦ last (let z = length-append g.first.cs (c ∷ []) in omega (arith, z, q, h))
      ]
        where
          last : k ≡ length g.first.cs + 0 → name_of t.text.now u.places.now (k + 1) ≡ (get_or (g.first.cs ++ (c ∷ [])) k no_case).name
          last i =
              let z = names_now.many in
              let j : k + 1 ≡ t.many + 1 = omega (arith, i, z) in
              ap (name_of t.text.now u.places.now) j ∙ e.own ∙ sym m
              ∙ ap (λ (d : Case). d.name) (sym (ap (λ (w : ℕ). get_or (g.first.cs ++ (c ∷ [])) w no_case) i ∙ get_or-append-add g.first.cs (c ∷ []) 0 no_case))

      tree_more : TreeIn u
      tree_more = rw (w.text, e.count) e.tree

      counted_more : (c : Case) → length (g.first.cs ++ (c ∷ [])) ≡ u.many
      counted_more c = let z = names_now.many in let n = length-append g.first.cs (c ∷ []) in omega (arith, z, n, e.count)

      kept_more : (c : Case) → c.name ≡ name → Kept u (g.first.cs ++ (c ∷ []))
      kept_more c m = record {
        even = let v = g.kept.even in omega (arith, v, w.long, w.wide);
        short = let s = g.kept.short in omega (arith, w.long, s);
        few = omega (arith, e.count, w.long, l);
        named = λ _ _. record {
          tree = tree_more;
          many = counted_more c;
          each = λ k h. same_name (k + 1) ∙ each_more c m k h;
        };
        least = omega (arith, counted_more c);
        counted = λ _ _. counted_more c;
      }

    pub taken_by_tree : {u : NameTree} → SameNames t u → (name : List ℕ) (r : Bool) → EnteredIn t u name r → TakenAs u g.first.cs name r
    taken_by_tree w name true m = record { is = is_met name m.0; more = λ y. absurd (true≢false y) }
    taken_by_tree w name false e = record { is = is_new_lem w name e; more = λ y c m. kept_more w name e c m }
