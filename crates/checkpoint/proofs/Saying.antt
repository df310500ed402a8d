-- What statements print that change nothing.
use Rattle.std.proofs.Common.{◌≡◌, ◌≤◌, ◌+◌, ◌-◌, ◌++◌, ℕ, suc, List, [], ◌∷◌, length, drop, get_or, refl, sym, ap, ◌∙◌, subst, arith, append_assoc}
use Rattle.std.proofs.lemmas.List.{append-nil, get_or-drop, length-drop, drop-drop}
use Rattle.kernel_model.specs.declared.types.faults.KernelFault.{KernelFault}
use Rattle.schedule_model.specs.Cells.{Cell, Data, Variable, Store}
use Rattle.schedule_model.specs.Program.{Program, Goes}
use Rattle.schedule_model.specs.Sequential.{Going, with_variables, after_host, item_from, after_item, seq, sequential}
use Rattle.bound_program.specs.Values.{BoundValue, ItemValue, ActValue, Exit}
use Rattle.bound_program.specs.Values as values
use Rattle.run_model.specs.Hosts.{variables_of, act_run}
use Rattle.run_model.specs.Programs.{item_at, kind_of, act_in, program_of}

-- the variables that a store has are its own
pub kept_store : (s : Store) → with_variables (variables_of s) s ≡ s
kept_store s = λ i. λ c. own c i
  where
    own : (c : Cell) → with_variables (variables_of s) s c ≡ s c
    own (Data c) = refl
    own (Variable v) = refl

module _ (c : BoundValue) (s : Store) where
  -- the item prints these bytes, and changes nothing
  pub record Says (x : ItemValue) (w : List ℕ) : Type 0 where
    pub act : ActValue
    pub is : x ≡ values.Host act
    pub goes : act_run c s act ≡ Goes (variables_of s) w

  -- these items print these bytes one after another
  abbrev pub AllSay : List ItemValue → List ℕ → Type 0
  AllSay [] w = w ≡ []
  AllSay (x ∷ xs) w = (u : List ℕ) × (rest : List ℕ) × Says x u × AllSay xs rest × (w ≡ u ++ rest)

  pub say_both : (xs ys : List ItemValue) (u w : List ℕ) → AllSay xs u → AllSay ys w → AllSay (xs ++ ys) (u ++ w)
  say_both [] ys u w a b = subst (λ z. AllSay ys (z ++ w)) (sym a) b
  say_both (x ∷ xs) ys u w a b = (a.0, a.1 ++ w, a.2, say_both xs ys a.1 w a.3 b, ap (λ z. z ++ w) a.4 ∙ append_assoc a.0 a.1 w)

  abbrev p : Program KernelFault
  p = program_of c

  one_said : (j : ℕ) (o : List ℕ) (x : ItemValue) (w : List ℕ) → item_at c j ≡ x → Says x w → after_item p j (Going s o) ≡ Going s (o ++ w)
  one_said j o x w at says =
      ap (λ i. item_from p j (kind_of i) s o) (at ∙ says.is)
      ∙ (ap (λ i. after_host j s o (act_run c s (act_in i))) (at ∙ says.is)
      ∙ (ap (after_host j s o) says.goes
      ∙ ap (λ t. Going t (o ++ w)) (kept_store s)))

  pub all_said : (xs : List ItemValue) (j : ℕ) (o w : List ℕ) → j ≤ length c.trace → drop j c.trace ≡ xs → AllSay xs w → seq p j ≡ Going s o
      → sequential p ≡ Going s (o ++ w)
  all_said [] j o w le left says at =
      let long : length c.trace - j ≡ 0 = sym (length-drop j c.trace) ∙ ap length left in
      let e : j ≡ length c.trace = omega (arith, long, le) in
      subst (λ n. seq p n ≡ Going s (o ++ w)) e (at ∙ ap (Going s) (sym (ap (λ z. o ++ z) says ∙ append-nil o)))
  all_said (x ∷ xs) j o w le left says at =
      let long : length c.trace - j ≡ suc (length xs) = sym (length-drop j c.trace) ∙ ap length left in
      let here : item_at c j ≡ x = (let e : j ≡ j + 0 = omega arith in ap (λ n. get_or c.trace n (values.Host Exit)) e)
      ∙ sym (get_or-drop j c.trace 0 (values.Host Exit)) ∙ ap (λ (l : List ItemValue). get_or l 0 (values.Host Exit)) left in
      let next : seq p (suc j) ≡ Going s (o ++ says.0) = ap (after_item p j) at ∙ one_said j o x says.0 here says.2 in
      let more : drop (suc j) c.trace ≡ xs = (let e : suc j ≡ j + 1 = omega arith in ap (λ n. drop n c.trace) e) ∙ sym (drop-drop 1 j c.trace) ∙ ap (drop 1) left in
      all_said xs (suc j) (o ++ says.0) says.1 (let l : suc j ≤ length c.trace = omega (arith, long, le) in l) more says.3 next
      ∙ ap (Going s) (append_assoc o says.0 says.1 ∙ ap (λ z. o ++ z) (sym says.4))
