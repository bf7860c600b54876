-- `least_choice` meets its contract: the least choice that carries the first group onto the second, by a table
-- without equations, which it leaves so.
use mathlib.Core.Bool.{false, true}
use mathlib.Core.List.{[]}
use mathlib.Core.Path.{refl}
use native.Mathlib.Omega.{arith}
use Rattle.clifford.specs.Vectors.{codes_of}
use Rattle.comparison.specs.internal.Equations.{equations_in}
use Rattle.comparison.specs.internal.Setting.{generators_in, generators_of}
use Rattle.comparison.proofs.ClassExtension.{classes-extend, classes-send}
use Rattle.comparison.proofs.Least.{least-answer}
use Rattle.comparison.proofs.LeastChosen.{chosen-works, none-works}
use Rattle.comparison.proofs.RecordElements.{framed-proper}
use Rattle.comparison.proofs.SignExtension.{signs-extend}
use Rattle.comparison.proofs.TableEnds.{class-ends, sign-ends}
use Rattle.comparison_search.proofs.least_choice.Goals as goal

pub least_classes-answer-requires : goal.least_classes-answer-requires
least_classes-answer-requires c =
    let a = c.args in
    let T = c.class_table in (
      c.requires.setting.few,
      T.ensures.triangular,
      classes-extend a.n (generators_in a.first.now) (generators_in a.second.now) a.frame.now c.requires.setting
          (equations_in c.class_table.new.table) T.ensures,
    )

pub wipe-requires : goal.wipe-requires
wipe-requires c =
    let a = c.args in
    let T = c.class_table in (
      omega (arith, c.requires.setting.few),
      class-ends a.n (generators_in a.first.now) (generators_in a.second.now) a.frame.now c.requires.setting
          (equations_in c.class_table.new.table) T.ensures,
    )

pub returns-in_err-classes : goal.returns-in_err-classes
returns-in_err-classes c =
    let a = c.args in
    let T = c.class_table in
    let A = c.in_err-classes.ensures in record {
      least_answer = rw c.from_residual.ensures
          (least-answer a.n (generators_of (generators_in a.first.now)) (generators_of (generators_in a.second.now))
          c.requires.setting.proper.within
          (framed-proper a.n (generators_of (generators_in a.second.now)) (codes_of a.frame.now)
          c.requires.setting.framed).within false []
          (none-works a.n (generators_in a.first.now) (generators_in a.second.now) a.frame.now c.requires.setting
          (equations_in c.class_table.new.table) T.ensures false [] A refl));
      empty_from_2 = c.wipe.ensures;
    }

pub sign_table-requires : goal.sign_table-requires
sign_table-requires c =
    let a = c.args in
    let T = c.class_table in
    let A = c.in_ok-classes.ensures in
    let classes = c.in_ok-classes.classes in
    let C = A.some refl in record {
      setting = (c.requires.setting, C.codes, C.bare-codes);
      sent_up_to_sign = (
        classes-send a.n (generators_in a.first.now) (generators_in a.second.now) a.frame.now c.requires.setting
            (equations_in c.class_table.new.table) T.ensures
            (codes_of classes) C.chosen.hold,
        c.wipe.ensures,
      );
    }

pub least_signs-choice-requires : goal.least_signs-choice-requires
least_signs-choice-requires c =
    let a = c.args in
    let T = c.class_table in
    let A = c.in_ok-classes.ensures in
    let classes = c.in_ok-classes.classes in
    let C = A.some refl in
    let U = c.sign_table in record {
      n_bound = (
        c.requires.setting.few,
        U.ensures.0.triangular,
        signs-extend a.n (generators_in a.first.now) (generators_in a.second.now) a.frame.now c.requires.setting
            (codes_of classes)
            (equations_in c.sign_table.new.table) U.ensures
            (classes-send a.n (generators_in a.first.now) (generators_in a.second.now) a.frame.now c.requires.setting
            (equations_in c.class_table.new.table) T.ensures
            (codes_of classes) C.chosen.hold),
      );
      codes = A.codes;
    }

pub wipe-requires-2 : goal.wipe-requires-2
wipe-requires-2 c =
    let a = c.args in
    let classes = c.in_ok-classes.classes in
    let U = c.sign_table in (
      omega (arith, c.requires.setting.few),
      sign-ends a.n (generators_in a.first.now) (generators_in a.second.now) a.frame.now c.requires.setting
          (equations_in c.sign_table.new.table) (codes_of classes) U.ensures,
    )

pub returns : goal.returns
returns c =
    let a = c.args in
    let T = c.class_table in
    let A = c.in_ok-classes.ensures in
    let classes = c.in_ok-classes.classes in
    let C = A.some refl in
    let U = c.sign_table in
    let L = c.least_signs-choice in record {
      least_answer = least-answer a.n (generators_of (generators_in a.first.now)) (generators_of (generators_in a.second.now))
          c.requires.setting.proper.within
          (framed-proper a.n (generators_of (generators_in a.second.now)) (codes_of a.frame.now)
          c.requires.setting.framed).within true
          L.result
          (chosen-works a.n (generators_in a.first.now) (generators_in a.second.now) a.frame.now c.requires.setting
          (equations_in T.new.table) T.ensures
          classes C (equations_in c.sign_table.new.table) U.ensures L.result L.ensures);
      empty_from_2 = c.wipe-2.ensures;
    }
