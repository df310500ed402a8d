-- The judgement of a whole text from those of its parts, one behind the other.
use Rattle.std.proofs.Common.{◌≡◌, ℕ, suc, ◌+◌, sym, ap, subst, ◌∙◌, arith, List, [], ◌∷◌, ◌++◌, append-nil, length, Result, Ok, Err, IfErr}
use Rattle.std.specs.Result.{IsErrAnd}
use Rattle.op_num.specs.CutLines.{Unread, unread}
use Rattle.local_mesh.specs.declared.types.RankMesh.{RankMesh}
use Rattle.bound_program.specs.Values.{BoundValue}
use Rattle.loop_plan.specs.Values.{PlanValue}
use Rattle.loop_plan.specs.Proper.{Proper}
use Rattle.plan_cert.specs.declared.types.CertRefusal.{CertRefusal}
use Rattle.plan_cert.specs.declared.types.CertRefusal.TheVariants.{Header, Ranks, Halo, Site, Item, BlockConflict, InnerConflict, End, TooManySteps, OutOfMemory}
use Rattle.plan_cert.specs.Awaited.{Awaited, Exactly, Sizes, Done, ColourLists, header_line, awaited_halos, awaited_sites, awaited_items, awaited}
use Rattle.plan_cert.specs.Certified.{all, colours_in, Certified, RefusedAmong, IsRefused}
use Rattle.plan_cert.specs.Judged.{FitsAmong, RefusesAmong, IsRefusedBy}
use Rattle.plan_cert.proofs.Reading.{fits_append, refused_first, refused_then}

module _ (b : BoundValue) (meshes : List RankMesh) (bytes : List ℕ) where
  first_line : (size number line : ℕ) → (before : ℕ) × (line ≡ 0 + suc before) × RefusedAmong b meshes size (awaited b meshes) bytes number before → IsRefused b meshes bytes number line
  first_line size number line k = (size, k.0, (let e : line ≡ suc k.0 = (let l = k.1 in omega arith) in e), k.2)

  -- one of all lines is refused
  refused_by : (size : ℕ) (e : CertRefusal) → RefusesAmong b meshes size (awaited b meshes) (unread bytes) e → IsRefusedBy b meshes bytes e
  refused_by size (Header line) h = first_line size 1 line h
  refused_by size (Ranks line) h = first_line size 2 line h
  refused_by size (Halo line) h = first_line size 3 line h
  refused_by size (Site line) h = first_line size 4 line h
  refused_by size (Item line) h = first_line size 5 line h
  refused_by size (BlockConflict line) h = first_line size 6 line h
  refused_by size (InnerConflict line) h = first_line size 7 line h
  refused_by size (End line) h = first_line size 8 line h
  refused_by size (TooManySteps steps) h = absurd h
  refused_by size OutOfMemory h = h

  -- a refusal is passed on
  pub err_is : {X : Type 0} (r : Result X CertRefusal) (e : CertRefusal) → IsErrAnd r (λ x. x ≡ e) → IsRefusedBy b meshes bytes e → IfErr r (IsRefusedBy b meshes bytes)
  err_is (Ok x) e h k = tt
  err_is (Err x) e h k = subst (IsRefusedBy b meshes bytes) (sym h) k

  abbrev items_on : List Awaited
  items_on = awaited_items b meshes ++ Done ∷ []

  abbrev sites_on : List Awaited
  sites_on = awaited_sites b meshes (length b.sites) ++ items_on

  abbrev halos_on : List Awaited
  halos_on = awaited_halos b meshes ++ sites_on

  module _ (start : Unread) (is : start ≡ unread bytes) where
    whole_refused : (size : ℕ) (e : CertRefusal) → RefusesAmong b meshes size (awaited b meshes) start e → IsRefusedBy b meshes bytes e
    whole_refused size e h = refused_by size e (subst (λ u. RefusesAmong b meshes size (awaited b meshes) u e) is h)

    pub header_refused : (e : CertRefusal) → RefusesAmong b meshes 0 (Exactly 1 header_line ∷ []) start e → IsRefusedBy b meshes bytes e
    header_refused e h = whole_refused 0 e (refused_first b meshes 0 (Exactly 1 header_line ∷ []) (Sizes ∷ halos_on) start e h)

    module _ (u : Unread) (header : (size : ℕ) → FitsAmong b meshes size (Exactly 1 header_line ∷ []) start u []) where
      header_on : (size : ℕ) (e : CertRefusal) → RefusesAmong b meshes size (Sizes ∷ halos_on) u e → IsRefusedBy b meshes bytes e
      header_on size e h = whole_refused size e (refused_then b meshes size (Exactly 1 header_line ∷ []) (Sizes ∷ halos_on) start u [] e (header size) h)

      pub sizes_refused : (e : CertRefusal) → RefusesAmong b meshes 0 (Sizes ∷ []) u e → IsRefusedBy b meshes bytes e
      sizes_refused e h = header_on 0 e (refused_first b meshes 0 (Sizes ∷ []) halos_on u e h)

      module _ (size : ℕ) (v : Unread) (sizes : FitsAmong b meshes size (Sizes ∷ []) u v []) where
        sizes_then : (e : CertRefusal) → RefusesAmong b meshes size halos_on v e → IsRefusedBy b meshes bytes e
        sizes_then e h = header_on size e (refused_then b meshes size (Sizes ∷ []) halos_on u v [] e sizes h)

        pub halos_refused : (e : CertRefusal) → RefusesAmong b meshes size (awaited_halos b meshes) v e → IsRefusedBy b meshes bytes e
        halos_refused e h = sizes_then e (refused_first b meshes size (awaited_halos b meshes) sites_on v e h)

        module _ (w : Unread) (halos : FitsAmong b meshes size (awaited_halos b meshes) v w []) where
          halos_then : (e : CertRefusal) → RefusesAmong b meshes size sites_on w e → IsRefusedBy b meshes bytes e
          halos_then e h = sizes_then e (refused_then b meshes size (awaited_halos b meshes) sites_on v w [] e halos h)

          pub sites_refused : (e : CertRefusal) → RefusesAmong b meshes size (awaited_sites b meshes (length b.sites)) w e → IsRefusedBy b meshes bytes e
          sites_refused e h = halos_then e (refused_first b meshes size (awaited_sites b meshes (length b.sites)) items_on w e h)

          module _ (x : Unread) (cs : List ColourLists) (sites : FitsAmong b meshes size (awaited_sites b meshes (length b.sites)) w x cs) where
            sites_then : (e : CertRefusal) → RefusesAmong b meshes size items_on x e → IsRefusedBy b meshes bytes e
            sites_then e h = halos_then e (refused_then b meshes size (awaited_sites b meshes (length b.sites)) items_on w x cs e sites h)

            pub items_refused : (e : CertRefusal) → RefusesAmong b meshes size (awaited_items b meshes) x e → IsRefusedBy b meshes bytes e
            items_refused e h = sites_then e (refused_first b meshes size (awaited_items b meshes) (Done ∷ []) x e h)

            module _ (y : Unread) (items : FitsAmong b meshes size (awaited_items b meshes) x y []) where
              pub end_refused : (e : CertRefusal) → RefusesAmong b meshes size (Done ∷ []) y e → IsRefusedBy b meshes bytes e
              end_refused e h = sites_then e (refused_then b meshes size (awaited_items b meshes) (Done ∷ []) x y [] e items h)

              module _ (z : Unread) (done : FitsAmong b meshes size (Done ∷ []) y z []) (nothing : z.rest ≡ []) where
                all_fit : FitsAmong b meshes size (awaited b meshes) start z cs
                all_fit =
                    let behind_sites = fits_append b meshes size (awaited_items b meshes) (Done ∷ []) x y z [] [] items done in
                    let behind_halos = fits_append b meshes size (awaited_sites b meshes (length b.sites)) items_on w x z cs [] sites behind_sites in
                    let behind_sizes = fits_append b meshes size (awaited_halos b meshes) sites_on v w z [] (cs ++ []) halos behind_halos in
                    let behind_header = fits_append b meshes size (Sizes ∷ []) halos_on u v z [] (cs ++ []) sizes behind_sizes in
                    subst (λ (k : List ColourLists). FitsAmong b meshes size (awaited b meshes) start z k) (append-nil cs)
                    (fits_append b meshes size (Exactly 1 header_line ∷ []) (Sizes ∷ halos_on) start u z [] (cs ++ []) (header size) behind_header)

                pub is_certified : (p : PlanValue) → size ≡ p.block → cs ≡ colours_in p.sites → Proper b meshes p → Certified b meshes bytes p
                is_certified p block colours proper =
                    let f : FitsAmong b meshes p.block (awaited b meshes) start z (colours_in p.sites) =
                    subst (λ (k : List ColourLists). FitsAmong b meshes p.block (awaited b meshes) start z k) colours (subst (λ k. FitsAmong b meshes k (awaited b meshes) start z cs) block all_fit) in
                    record {
                      lines = f.lines;
                      whole = sym (ap (λ (k : Unread). k.rest) is) ∙ (f.split ∙ (ap (λ (k : List ℕ). all f.lines ++ k) nothing ∙ append-nil (all f.lines)));
                      fit = f.fit;
                      proper = proper;
                    }
