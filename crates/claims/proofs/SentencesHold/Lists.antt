-- What the demands say of each exported function on lists and on texts of Pauli strings, from its contract.
use mathlib.Core.List.{List}
use Prim.Native.Nat.{ℕ}
use Rattle.calls.specs.Lists.{check_call, reduce_unused_call}
use Rattle.calls.specs.Products.{product_call}
use Rattle.calls.specs.Strings.{read_strings_call, write_strings_call}
use Rattle.buffers.specs.Calls.{Call}
use Rattle.stabilizer.specs.Lists.{GeneratorList}
use Rattle.claims.proofs.ListDemandHolds.{checks-tell, reduction-answers}
use Rattle.claims.proofs.ProductDemandHolds.{products-answer}
use Rattle.claims.proofs.SecondDemandLists.{reduced-codes, reduction-keeps-group}
use Rattle.claims.proofs.StringsDemandHolds.{strings-demand}
use Rattle.claims.proofs.UsedDemandHolds.{reductions-unused}
use Rattle.claims.proofs.families.Lists.{lists-accepted, lists-conform}
use Rattle.claims.proofs.families.Shared.{answered, at_zero}
use Rattle.claims.specs.Sentences.Lists.{CheckSays, ProductSays, ReadStringsSays, ReduceSays, WriteStringsSays}
use Rattle.claims.proofs.NumbersHold.{
  check-words,
  in_words,
  product-words,
  read-words,
  reduce-words,
  write-words,
}
use Rattle.claims.specs.Numbers.{check_sentences, product_sentences, read_sentences, reduce_sentences, write_sentences}

pub check-says : (l : GeneratorList) (r : ℕ) → Call (check_call l) r → CheckSays l r
check-says l r C =
    record {
      answered = answered (lists-conform.check l) C;
      accepted = lists-accepted.check l r C;
      numbers = in_words (check_sentences l) (check-words l) C;
      tells = checks-tell l r C;
    }

pub reduce-says : (l : GeneratorList) (nb cs : List ℕ) (used : ℕ) (nb' cs' : List ℕ) (used' r : ℕ) →
    Call (reduce_unused_call l nb cs used nb' cs' used') r → ReduceSays l nb cs used nb' cs' used' r
reduce-says l nb cs used nb' cs' used' r C =
    record {
      answered = answered (lists-conform.reduce l nb cs used nb' cs' used') C;
      accepted = lists-accepted.reduce l nb cs used nb' cs' used' r C;
      numbers = in_words (reduce_sentences l nb cs) (reduce-words l nb cs) C;
      form = λ z. reduction-answers l nb cs used nb' cs' used' (at_zero C z);
      group = λ z. reduction-keeps-group l nb cs used nb' cs' used' (at_zero C z);
      codes = λ z. reduced-codes l nb cs used nb' cs' used' (at_zero C z);
      unused = λ z. reductions-unused l nb cs used nb' cs' used' (at_zero C z);
    }

pub product-says : (l : GeneratorList) (chosen z x phase z' x' phase' r : ℕ) →
    Call (product_call l chosen z x phase z' x' phase') r → ProductSays l chosen z x phase z' x' phase' r
product-says l chosen z x phase z' x' phase' r C =
    record {
      answered = answered (lists-conform.products l chosen z x phase z' x' phase') C;
      accepted = lists-accepted.product l chosen z x phase z' x' phase' r C;
      numbers = in_words (product_sentences l chosen) (product-words l chosen) C;
      answer = λ e. products-answer l chosen z x phase z' x' phase' (at_zero C e);
    }

pub read-strings-says : (t s z x s' z' x' : List ℕ) (r : ℕ) → Call (read_strings_call t s z x s' z' x') r →
    ReadStringsSays t s z x s' z' x' r
read-strings-says t s z x s' z' x' r C =
    record {
      answered = answered (lists-conform.reads t s z x s' z' x') C;
      accepted = lists-accepted.read-strings t s z x s' z' x' r C;
      numbers = in_words (read_sentences t s z x) (read-words t s z x) C;
      form = strings-demand.form t s z x s' z' x' r C;
      back = λ e. strings-demand.text-back t s z x s' z' x' (at_zero C e);
    }

pub write-strings-says : (l : GeneratorList) (text text' : List ℕ) (r : ℕ) → Call (write_strings_call l text text') r →
    WriteStringsSays l text text' r
write-strings-says l text text' r C =
    record {
      answered = answered (lists-conform.writes l text text') C;
      accepted = lists-accepted.write-strings l text text' r C;
      numbers = in_words (write_sentences l text) (write-words l text) C;
      back = λ e. strings-demand.list_back l text text' (at_zero C e);
    }
