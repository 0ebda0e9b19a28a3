-- The classes that the rules of the machine and of linking speak of by name. Which these are is our own.
use Rattle.std.specs.Prelude.{ℕ, List, codes}

-- the core classes, the throwables of the machine among them
pub data Known : Type 0 where
  JavaObject : Known
  JavaString : Known
  JavaClass : Known
  Throwable : Known
  Exception : Known
  Error : Known
  RuntimeException : Known
  CloneNotSupported : Known
  Arithmetic : Known
  NullPointer : Known
  IndexOutOfBounds : Known
  NegativeArraySize : Known
  ArrayStore : Known
  ClassCast : Known
  IllegalArgument : Known
  IllegalState : Known
  UnsupportedOperation : Known
  ArrayIndexOutOfBounds : Known
  StringIndexOutOfBounds : Known
  LinkageError : Known
  NoClassDefFound : Known
  ExceptionInInitializer : Known
  IncompatibleClassChange : Known
  AbstractMethod : Known
  PiOut : Known
  PiText : Known
  Cloneable : Known
  Serializable : Known
  JavaSystem : Known

-- the descriptor of each
unfoldable pub descriptor_of : Known → List ℕ
descriptor_of JavaObject = codes "Ljava/lang/Object;"
descriptor_of JavaString = codes "Ljava/lang/String;"
descriptor_of JavaClass = codes "Ljava/lang/Class;"
descriptor_of Throwable = codes "Ljava/lang/Throwable;"
descriptor_of Exception = codes "Ljava/lang/Exception;"
descriptor_of Error = codes "Ljava/lang/Error;"
descriptor_of RuntimeException = codes "Ljava/lang/RuntimeException;"
descriptor_of CloneNotSupported = codes "Ljava/lang/CloneNotSupportedException;"
descriptor_of Arithmetic = codes "Ljava/lang/ArithmeticException;"
descriptor_of NullPointer = codes "Ljava/lang/NullPointerException;"
descriptor_of IndexOutOfBounds = codes "Ljava/lang/IndexOutOfBoundsException;"
descriptor_of NegativeArraySize = codes "Ljava/lang/NegativeArraySizeException;"
descriptor_of ArrayStore = codes "Ljava/lang/ArrayStoreException;"
descriptor_of ClassCast = codes "Ljava/lang/ClassCastException;"
descriptor_of IllegalArgument = codes "Ljava/lang/IllegalArgumentException;"
descriptor_of IllegalState = codes "Ljava/lang/IllegalStateException;"
descriptor_of UnsupportedOperation = codes "Ljava/lang/UnsupportedOperationException;"
descriptor_of ArrayIndexOutOfBounds = codes "Ljava/lang/ArrayIndexOutOfBoundsException;"
descriptor_of StringIndexOutOfBounds = codes "Ljava/lang/StringIndexOutOfBoundsException;"
descriptor_of LinkageError = codes "Ljava/lang/LinkageError;"
descriptor_of NoClassDefFound = codes "Ljava/lang/NoClassDefFoundError;"
descriptor_of ExceptionInInitializer = codes "Ljava/lang/ExceptionInInitializerError;"
descriptor_of IncompatibleClassChange = codes "Ljava/lang/IncompatibleClassChangeError;"
descriptor_of AbstractMethod = codes "Ljava/lang/AbstractMethodError;"
descriptor_of PiOut = codes "Lpi/Out;"
descriptor_of PiText = codes "Lpi/Text;"
descriptor_of Cloneable = codes "Ljava/lang/Cloneable;"
descriptor_of Serializable = codes "Ljava/io/Serializable;"
descriptor_of JavaSystem = codes "Ljava/lang/System;"
