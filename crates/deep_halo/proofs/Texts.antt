-- Texts, one behind another.
use Rattle.std.proofs.Common.{◌≡◌, ◌<◌, ◌≤◌, ◌+◌, ℕ, ℤ, pos, Bool, true, false, cond, List, [], ◌∷◌, ◌++◌, flat_map, map, length, get_or, refl, sym, ap, ◌∙◌, append_assoc, arith}
use Rattle.std.proofs.lemmas.List.{append-nil, map-id, ext_get_or}
use Rattle.std.proofs.lemmas.List.Concat.{flat_map-append}
use Rattle.std.proofs.lemmas.List.FromFn.{map-range_with_len_more, length-map-range_with_len, get_or-map-range_with_len}
use Rattle.lemmas.specs.Below.{listed}
use Rattle.lemmas.proofs.Below.{listed_more}
use Rattle.kernel_model.specs.declared.types.faults.KernelFault.{KernelFault}
use Rattle.mesh_decl.specs.declared.owners.Owners.{Owners}
use Rattle.mesh_decl.specs.Mesh.{dat_count, dat_set, dat_dim, set_size}
use Rattle.bound_program.specs.Values.{BoundValue}
use Rattle.run_model.specs.Windows.{numbers, Element, cell_in}
use Rattle.run_model.proofs.Public.{has_dat}
use Rattle.chain_model.specs.Machine.{ChainState, value_in}
use Rattle.deep_halo.specs.Places.{in_block}
use Rattle.deep_halo.proofs.chain_memory.chain_stores.Writing.{block_follow}
use Rattle.deep_halo.specs.Running.{StoresStand}

numbers_more : (n : ℕ) → numbers (n + 1) ≡ numbers n ++ n ∷ []
numbers_more n = sym (map-id (numbers (n + 1))) ∙ map-range_with_len_more (λ (x : ℕ). x) 0 n n (omega arith) ∙ ap (λ z. z ++ n ∷ []) (map-id (numbers n))

-- one text more
pub text_more : (f : ℕ → List ℕ) (n : ℕ) (old now new : List ℕ) → now ≡ old ++ flat_map f (numbers n) → new ≡ now ++ f n → new ≡ old ++ flat_map f (numbers (n + 1))
text_more f n old now new is more =
    more ∙ ap (λ z. z ++ f n) is ∙ append_assoc old (flat_map f (numbers n)) (f n)
    ∙ ap (λ z. old ++ z) (ap (λ z. flat_map f (numbers n) ++ z) (sym (append-nil (f n))) ∙ sym (flat_map-append f (numbers n) (n ∷ [])) ∙ ap (flat_map f) (sym (numbers_more n)))

-- the text of a number that passes
one_listed : (f : ℕ → List ℕ) (t : Bool) (n : ℕ) → flat_map f (cond t (n ∷ []) []) ≡ cond t (f n) []
one_listed f true n = append-nil (f n)
one_listed f false n = refl

pub listed_text : (f : ℕ → List ℕ) (p : ℕ → Bool) (n : ℕ) (old now new : List ℕ) → now ≡ old ++ flat_map f (listed n p) → new ≡ now ++ cond (p n) (f n) [] → new ≡ old ++ flat_map f (listed (n + 1) p)
listed_text f p n old now new is more =
    more ∙ ap (λ z. z ++ cond (p n) (f n) []) is ∙ append_assoc old (flat_map f (listed n p)) (cond (p n) (f n) [])
    ∙ ap (λ z. old ++ z) (ap (λ z. flat_map f (listed n p) ++ z) (sym (one_listed f (p n) n)) ∙ sym (flat_map-append f (listed n p) (cond (p n) (n ∷ []) [])) ∙ ap (flat_map f) (sym (listed_more n p)))

-- a pair's cells in a memory are its values
pub pair_values_are : (b : BoundValue) (o : Owners) (memory : List ℤ) (st : ChainState KernelFault) → StoresStand b o memory st
    → (r d y from dim : ℕ) → r < o.ranks → d < dat_count b.mesh → y < set_size b.mesh (dat_set b.mesh d)
    → from ≡ in_block b r (cell_in (Element d y) 0) → dim ≡ dat_dim b.mesh d → from + dim ≤ length memory
    → (values : List ℤ) → length values ≡ dim → ((i : ℕ) → i < dim → get_or values i (pos 0) ≡ get_or memory (from + i) (pos 0))
    → values ≡ map (value_in (st.stores r d y)) (numbers (dat_dim b.mesh d))
pair_values_are b o memory st stand r d y from dim lr ld ly at wide room values count each =
    ext_get_or (pos 0) values (map (value_in (st.stores r d y)) (numbers (dat_dim b.mesh d)))
    (count ∙ wide ∙ sym (length-map-range_with_len (value_in (st.stores r d y)) 0 (dat_dim b.mesh d)))
    (λ i li.
    let l : i < dat_dim b.mesh d = omega (arith, li, count, wide) in
    each i (omega (arith, li, count)) ∙ ap (λ k. get_or memory (k + i) (pos 0)) at ∙ ap (λ k. get_or memory k (pos 0)) (sym (block_follow b r (Element d y) i))
    ∙ stand.pairs r (record { dat = d; element = y; component = i }) lr (has_dat b d y i ld ly l)
    ∙ sym (get_or-map-range_with_len (value_in (st.stores r d y)) 0 (dat_dim b.mesh d) i i (pos 0) l (omega arith)))
